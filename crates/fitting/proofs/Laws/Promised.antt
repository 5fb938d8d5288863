-- E2's sentences, of what Frame answers. Assumes nothing.
use Rattle.std.specs.Prelude.{◌≡◌, refl, List, ◌++◌, ◌↔◌, ℕ, ◌≤◌, length, drop, replicate, pos, ◌≤ℤ◌, ◌<ℤ◌, Option, Some, None, Result, Ok, Err}
use Rattle.std.proofs.Common.{sym, ap, ◌∙◌, arith}
use Rattle.std.proofs.Math.Decide.{ℕ_discrete}
use Rattle.plan.specs.Limits.{most_allowance, scratch_size}
use Rattle.plan.specs.Plan.{Table}
use Rattle.plan.specs.Fit.{Fit}
use Rattle.plan.specs.Questions.{frame, none, refusal, frame_given}
use Rattle.plan.specs.declared.Refusal.{Refusal}
use Rattle.plan.proofs.Laws.Answered.{answered_none, answered_some}
use Rattle.rules.specs.Placement.{width}
use Rattle.contours.specs.Sheet.{sheet}
use Rattle.least.specs.Frame.{Found, nowhere, found, least_allowance, Least}
use Rattle.least.proofs.Laws.Frame.{found-least, nowhere-wide, fits_bounds}
use Rattle.fitting.specs.Fitted.{told, fitted_of, frame_scratch_after, Frames, AtMost}
use Rattle.fitting.proofs.Laws.Fitted.{asks, told-found}

-- ---- what is told is what is found
told-read : (x : Found) (a : ℕ) → told x ≡ Some a → x ≡ found a
unfolding told
told-read nowhere a e = absurd (let z : ◌≡◌ {A = ℕ} 0 1 = cc in omega arith)
told-read (found b) a e = let z : b ≡ a = cc in ap found z

ok_same : {a b : Option ℕ} → ◌≡◌ {A = Result (Option ℕ) Refusal} (Ok a) (Ok b) → a ≡ b
ok_same e = cc

none_read : (x : Found) → told x ≡ None → x ≡ nowhere
unfolding told
none_read nowhere e = refl
none_read (found b) e = absurd (let z : ◌≡◌ {A = ℕ} 0 1 = cc in omega arith)

none_told : (x : Found) → x ≡ nowhere → told x ≡ None
unfolding told
none_told x e = rw e refl

told_clears : (x : Found) (s : List ℕ) → frame_scratch_after (Ok (told x)) s ≡ replicate scratch_size 0 ++ drop scratch_size s
unfolding told frame_scratch_after
told_clears nowhere s = refl
told_clears (found a) s = refl

module _ (t : Table) (f : ℕ) (s s' : List ℕ) (r : Result (Option ℕ) Refusal) (g : Frames t f s s' r) where
  abbrev why : Refusal
  why = refusal frame (frame_given t f (length s))

  -- a refusal is answered by its number and cell, and leaves the scratch as it was
  pub unchanged : ¬ (why.number ≡ 0) → (r ≡ Err why) × (s' ≡ s)
  unfolding fitted_of frame_scratch_after
  unchanged z =
      let e : r ≡ Err why = g.answers ∙ answered_some why _ z in
      (e, g.scratch ∙ rw e)

  -- ---- where no question refuses
  module _ (z : why.number ≡ 0) where
    is : r ≡ Ok (told (least_allowance t f))
    unfolding fitted_of
    is = g.answers ∙ answered_none why _ z

    fit : Fit t
    fit = (asks t f s z).0

    least_iff : (a : ℕ) → (r ≡ Ok (Some a)) ↔ Least t f a
    least_iff a =
        let (there, back) = found-least t fit.some_cell fit.sound f a in
        (λ e. there (told-read (least_allowance t f) a (ok_same (sym is ∙ e))), λ l. is ∙ ap Ok (sym (told-found _ a (back l))))

  module _ (z : why ≡ none) where
    zero : why.number ≡ 0
    zero = ap (λ (x : Refusal). x.number) z

    -- "the least allowance from 0 to 65,535 whose sheet is no wider than the frame", and no other
    pub allowance_iff : (a : ℕ) → (r ≡ Ok (Some a)) ↔ Least t f a
    allowance_iff = least_iff zero

    -- "None" is returned if and only if the sheet at 65,535 is wider
    pub none_iff : (r ≡ Ok None) ↔ (pos f <ℤ width t (sheet t most_allowance))
    none_iff =
        let (there, back) = nowhere-wide t (fit zero).some_cell (fit zero).sound f in
        (λ e. there (none_read (least_allowance t f) (ok_same (sym (is zero) ∙ e))), λ w. is zero ∙ ap Ok (none_told (least_allowance t f) (back w)))

    -- "It borrows Layout's scratch and leaves it as Layout does", with "none" too
    pub clears : s' ≡ replicate scratch_size 0 ++ drop scratch_size s
    clears = g.scratch ∙ rw (is zero) (told_clears (least_allowance t f) s)

    -- a frame that holds the sheet at a, as one of its own width, gives at most a
    pub at_most : (a : ℕ) → a ≤ most_allowance → width t (sheet t a) ≤ℤ pos f → AtMost r a
    at_most a l w =
        let m = fits_bounds t (fit zero).some_cell (fit zero).sound f a l w in
        record { b = m.b; answers = is zero ∙ ap Ok (sym (told-found _ m.b m.is)); bound = m.bound }

-- ---- of an answer alone: an allowance is the least
pub allowance_least : (t : Table) (f : ℕ) (s s' : List ℕ) (a : ℕ) → Frames t f s s' (Ok (Some a)) → Least t f a
allowance_least t f s s' a g = go (ℕ_discrete (why t f s s' (Ok (Some a)) g).number 0)
  where
    go : Dec ((refusal frame (frame_given t f (length s))).number ≡ 0) → Least t f a
    go (yes z) = (least_iff t f s s' (Ok (Some a)) g z a).0 refl
    go (no z) = let e = (unchanged t f s s' (Ok (Some a)) g z).0 in absurd (cc e)
