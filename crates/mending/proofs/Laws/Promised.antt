-- Proofs of proofs/Promised.antt. Assumes nothing.
use Rattle.std.specs.Prelude.{◌≡◌, List, [], ◌↔◌, ℕ, ◌≤◌, ◌<◌, T, length}
use Rattle.std.proofs.Common.{sym, ap, ◌∙◌, arith}
use Rattle.whole.proofs.Laws.Says.{both, says_le, is_true}
use Rattle.plan.specs.Lists.{from, mem}
use Rattle.plan.proofs.Laws.Lists.{keep-read, keep_show, from-read, from_show}
use Rattle.plan.specs.Questions.{none}
use Rattle.plan.specs.declared.Record.{Record}
use Rattle.plan.specs.declared.Refusal.{Refusal}
use Rattle.planfile_spec.specs.Format.{trailer_of, entry}
use Rattle.planfile_spec.specs.FileSteps.{file_refusal}
use Rattle.mending_boxes.specs.Boxes.{new_width, new_depth, changed}
use Rattle.mending.specs.Mended.{would_get, looked_at, mended, altered_cells, altered, OnlyBoxes, differs, altered_by}
use Rattle.mending_boxes.proofs.Laws.Boxes.{changed-differs}
use Rattle.mending.proofs.Laws.Mended as law

-- accepted, as the questions say it
passes : (f : List ℕ) → would_get f ≡ none → (file_refusal f).number ≡ 0
passes f e = ap (λ (r : Refusal). r.number) (sym (law.would_get-is f) ∙ e)

pub mend-only : (f : List ℕ) → OnlyBoxes f (mended f)
mend-only = law.mend-only

pub mend-refused : (f : List ℕ) → 2 ≤ (would_get f).number → (would_get f).number ≤ 4 → (mended f ≡ f) × (altered f ≡ [])
mend-refused f a b = law.mend_unframed f (law.unframed f (is_true (both (says_le 2 (would_get f).number) (says_le (would_get f).number 4)) (a, b)))

pub mend_keeps : (f : List ℕ) → would_get f ≡ none → (mended f ≡ f) × (altered f ≡ [])
mend_keeps f e = law.mend_keeps f (passes f e)

pub mend-width : (f : List ℕ) (c : ℕ) → c < looked_at f → (entry (mended f) c).width ≡ new_width (entry f c)
mend-width f c l = ap (λ (r : Record). r.width) (law.mend-entry f c l)

pub mend_depth : (f : List ℕ) (c : ℕ) → c < looked_at f → (entry (mended f) c).depth ≡ new_depth (entry f c)
mend_depth f c l = ap (λ (r : Record). r.depth) (law.mend-entry f c l)

-- a cell that is looked at is altered exactly where it is told of
differs-is : (f : List ℕ) (c : ℕ) → c < looked_at f → differs f (mended f) c ≡ changed (entry f c)
unfolding differs
differs-is f c l = rw (mend-width f c l, mend_depth f c l) (changed-differs (entry f c))

-- and no other is altered
pub mend_tells : (f : List ℕ) (c : ℕ) → T (mem c (altered_cells f)) ↔ T (mem c (altered_by f (mended f)))
unfolding altered_cells altered_by
mend_tells f c = (there, back)
  where
    there : T (mem c (altered_cells f)) → T (mem c (altered_by f (mended f)))
    there m =
        let k = keep-read (λ c. changed (entry f c)) (from 0 (looked_at f)) c m in
        let (a, b) = from-read 0 (looked_at f) c k.there in
        let l : c < looked_at f = omega arith in
        let i = (law.seen f c l).is in
        keep_show (differs f (mended f)) (from 0 (trailer_of f).count) c (from_show 0 (trailer_of f).count c (omega arith) (omega arith)) (rw (differs-is f c l) k.passes)

    back : T (mem c (altered_by f (mended f))) → T (mem c (altered_cells f))
    back m =
        let k = keep-read (differs f (mended f)) (from 0 (trailer_of f).count) c m in
        let (a, b) = from-read 0 (trailer_of f).count c k.there in
        let l : c < looked_at f = law.differs_looked f c (omega arith) k.passes in
        keep_show (λ c. changed (entry f c)) (from 0 (looked_at f)) c (from_show 0 (looked_at f) c (omega arith) (omega arith)) (rw (differs-is f c l) at k.passes)

pub mend-fewest : (f g : List ℕ) → OnlyBoxes f g → would_get g ≡ none
    → ((c : ℕ) → T (mem c (altered_cells f)) → T (mem c (altered_by f g))) × (length (altered f) ≤ length (altered_by f g))
mend-fewest f g o e = (law.mend-fewest f g o (passes g e), law.mend-fewest-count f g o (passes g e))

pub mend_again : (f : List ℕ) → (mended (mended f) ≡ mended f) × (altered (mended f) ≡ [])
mend_again = law.mend_again
