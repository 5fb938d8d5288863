-- FULL MARKS EXACTLY WHERE NOTHING NARROWER WAS POSSIBLE: what a mark says, of every placement that is lent. Assumes nothing.
use Rattle.std.specs.Prelude.{◌≡◌, List, ◌++◌, map, ◌↔◌, ℕ, length, drop, replicate, ℤ, Result, Ok, Err}
use Rattle.plan.specs.Limits.{scratch_size}
use Rattle.plan.specs.Plan.{Table}
use Rattle.plan.specs.declared.Refusal.{Refusal}
use Rattle.plan.specs.Questions.{mark, none, refusal, mark_given}
use Rattle.rules.specs.Placement.{placed}
use Rattle.rules.specs.Verdict.{Breaks}
use Rattle.least.specs.Worked.{sheets}
use Rattle.mark_spec.specs.declared.Marked.{Marked}
use Rattle.mark_spec.specs.Marked.{full_of, wide_of, broken_of, refused_of, Marks}
use Rattle.mark_spec.specs.Promises.{Narrowest, FullWith, WideBy, IsFull, IsWide, IsBroken, IsRefused, OneOf}
use Rattle.mark_spec.specs.Worked.{gives, due}
use Rattle.mark_spec.proofs.Laws.Promised as laws
use Rattle.mark_spec.proofs.Laws.Worked as worked-laws

module _ (t : Table) (ps : List ℤ) (al : ℕ) (s s' : List ℕ) (r : Result Marked Refusal) (g : Marks t ps al s s' r) where
  -- Exactly one of the four answers, on every input:
  pub one_answer : OneOf (IsFull r) (IsWide r) (IsBroken r) (IsRefused r)
  one_answer = laws.one_answer r

  -- a refusal exactly where a question refuses, with its number and cell,
  pub refused-by : (k c : ℕ) → (r ≡ Err (refused_of k c)) ↔ ((¬ (k ≡ 0)) × (refusal mark (mark_given t ps al (length s)) ≡ record { number = k; cell = c }))
  refused-by = laws.refused_iff t ps al s s' r g

  -- which leaves the scratch as it was.
  pub mark_refuses : ¬ ((refusal mark (mark_given t ps al (length s))).number ≡ 0)
      → (r ≡ Err (refusal mark (mark_given t ps al (length s)))) × (s' ≡ s)
  mark_refuses = laws.unchanged t ps al s s' r g

  -- Where no question refuses:
  module _ (z : refusal mark (mark_given t ps al (length s)) ≡ none) where
    -- full marks exactly where the drawing keeps S1 to S5 and no placement that keeps them, whole numbers of any size, is narrower;
    pub full_marks : IsFull r ↔ Narrowest t (placed ps) al
    full_marks = laws.full_marks t ps al s s' r g z

    -- with its width and its rows;
    pub full_with : (w h : ℕ) → (r ≡ Ok (full_of w h)) ↔ FullWith t (placed ps) al w h
    full_with = laws.full_iff t ps al s s' r g z

    -- "wide" exactly where it keeps them and is wider than the least width, with its width, that one and its rows;
    pub wide_by : (w l h : ℕ) → (r ≡ Ok (wide_of w l h)) ↔ WideBy t (placed ps) al w l h
    wide_by = laws.wide_by t ps al s s' r g z

    -- "broken" exactly where that is the lowest rule and pair broken;
    pub broken-by : (k a b : ℕ) → (r ≡ Ok (broken_of k a b)) ↔ Breaks t (placed ps) al k a b
    broken-by = laws.broken_iff t ps al s s' r g z

    -- and the scratch is left as Layout leaves it.
    pub mark_clears : s' ≡ replicate scratch_size 0 ++ drop scratch_size s
    mark_clears = laws.clears t ps al s s' r g z

-- The worked sheets, marked.
pub worked : map gives sheets ≡ due
worked = worked-laws.marked
