-- What Mark refuses, and what it answers of the positions that Layout writes. Nothing that a reader must believe stands here. Assumes nothing.
use Rattle.std.specs.Prelude.{◌≡◌, refl, List, ℕ, ◌≤◌, length, ℤ, Result, Ok}
use Rattle.std.proofs.Common.{sym, ap, ◌∙◌, inl, inr}
use Rattle.plan.specs.Limits.{scratch_size}
use Rattle.plan.specs.Plan.{Table}
use Rattle.plan.specs.Questions.{mark, check, none, refusal, mark_given, check_given}
use Rattle.plan.specs.declared.Refusal.{Refusal}
use Rattle.rules.specs.Placement.{placed}
use Rattle.rules.specs.Verdict.{Breaks}
use Rattle.layout.specs.Laid.{Lays}
use Rattle.layout.proofs.Laws.Promised.{promised}
use Rattle.mark_spec.specs.Marked.{full_of, marked_of, mark_scratch_after, Marks}
use Rattle.mark_spec.specs.Promises.{Narrowest, WideBy, IsFull, IsWide, IsBroken, IsRefused, OneOf, first, second, third, fourth}
use Rattle.mark_spec.proofs.Promised.{one_answer, refused-by, full_marks, full_with, wide_by, broken-by}
use Rattle.mark_spec.proofs.Laws.Marked.{unrefused}
use Rattle.mark_spec.specs.declared.Marked.{Marked}
use Rattle.demands.specs.Outcomes.{sheet_of}
use Rattle.demands.proofs.Laws.Between.{none_or_refused}

pub as_check : (t : Table) (ps : List ℤ) (al s : ℕ) → scratch_size ≤ s → refusal mark (mark_given t ps al s) ≡ refusal check (check_given t al ps)
as_check = unrefused

pub layout-full : (t : Table) (al : ℕ) (s s' : List ℕ) (ps ps' : List ℤ) (w h : ℕ) → Lays t al s s' ps ps' (sheet_of w h)
    → (v v' : List ℕ) (r : Result Marked Refusal) → Marks t ps' al v v' r → scratch_size ≤ length v → r ≡ Ok (full_of w h)
layout-full t al s s' ps ps' w h l v v' r g n =
    let p = promised t al s s' ps ps' _ l in
    (full_with t ps' al v v' r g (as_check t ps' al (length v) n ∙ p.unrefused) w h).1
    (record { narrowest = record { keeps = p.keeps; none_narrower = λ q k. (p.least q k).wide }; wide = p.wide; deep = p.deep })

-- ---- exactly one of four is so, and is answered
module _ (t : Table) (ps : List ℤ) (al : ℕ) (s : List ℕ) where
  abbrev why : Refusal
  why = refusal mark (mark_given t ps al (length s))

  abbrev answered : Result Marked Refusal
  answered = marked_of t ps al why

  call : Marks t ps al s (mark_scratch_after answered s) answered
  call = record { answers = refl; scratch = refl }

  abbrev Exactly : Type 0
  Exactly = OneOf ((why ≡ none) × Narrowest t (placed ps) al) ((why ≡ none) × (w : ℕ) × (l : ℕ) × (h : ℕ) × WideBy t (placed ps) al w l h) ((why ≡ none) × (k : ℕ) × (a : ℕ) × (b : ℕ) × Breaks t (placed ps) al k a b) (¬ (why.number ≡ 0))

  accepted : why ≡ none → ¬ (¬ (why.number ≡ 0))
  accepted z n = n (ap (λ (x : Refusal). x.number) z)

  module _ (z : why ≡ none) where
    full : IsFull answered → Narrowest t (placed ps) al
    full = (full_marks t ps al s _ answered call z).0

    not_full : ¬ (IsFull answered) → ¬ ((why ≡ none) × Narrowest t (placed ps) al)
    not_full n (e, x) = n ((full_marks t ps al s _ answered call z).1 x)

    not_wide : ¬ (IsWide answered) → ¬ ((why ≡ none) × (w : ℕ) × (l : ℕ) × (h : ℕ) × WideBy t (placed ps) al w l h)
    not_wide n (e, w, l, h, x) = n (w, l, h, (wide_by t ps al s _ answered call z w l h).1 x)

    not_broken : ¬ (IsBroken answered) → ¬ ((why ≡ none) × (k : ℕ) × (a : ℕ) × (b : ℕ) × Breaks t (placed ps) al k a b)
    not_broken n (e, k, a, b, x) = n (k, a, b, (broken-by t ps al s _ answered call z k a b).1 x)

    of-answer : OneOf (IsFull answered) (IsWide answered) (IsBroken answered) (IsRefused answered) → Exactly
    of-answer (first f b c d) = first (z, full f) (not_wide b) (not_broken c) (accepted z)
    of-answer (second a (w, l, h, e) c d) = second (not_full a) (z, w, l, h, (wide_by t ps al s _ answered call z w l h).0 e) (not_broken c) (accepted z)
    of-answer (third a b (k, x, y, e) d) = third (not_full a) (not_wide b) (z, k, x, y, (broken-by t ps al s _ answered call z k x y).0 e) (accepted z)
    of-answer (fourth a b c (k, x, e)) = let (n, q) = (refused-by t ps al s _ answered call k x).0 e in absurd (n (ap (λ (x : Refusal). x.number) (sym q ∙ z)))

  pub exactly : Exactly
  exactly = elim (none_or_refused mark (mark_given t ps al (length s))) [
    | inl z ↦ of-answer z (one_answer t ps al s _ answered call)
    | inr n ↦ fourth (λ (z, x). accepted z n) (λ (z, w, l, h, x). accepted z n) (λ (z, k, a, b, x). accepted z n) n
  ]
