-- No label of a plan that Read takes has a line feed. Assumes nothing.
use Rattle.std.specs.Prelude.{◌≡◌, refl, [], ◌∷◌, Bool, true, false, cond, ℕ, zero, suc, ◌+◌, ◌-◌, ◌≤◌, ◌<◌, T, leb, take, drop}
use Rattle.std.proofs.Common.{sym, arith}
use Rattle.std.proofs.Math.Dec.{leb→le}
use Rattle.std.proofs.Math.Seq.{take-nil, drop-nil}
use Rattle.plan.specs.Limits.{between, first_letter, last_letter, most_label}
use Rattle.plan.specs.Questions.{every}
use Rattle.plan.proofs.Laws.Questions.{both-none, asked_yes, each_none}
use Rattle.plan.proofs.Laws.Steps.{and_right}
use Rattle.planfile_spec.specs.Format.{trailer_of, entry}
use Rattle.planfile_spec.specs.FileSteps.{record_refusal, entry_refusal, formed_refusal, header_refusal, body_refusal, file_refusal}
use Rattle.planfile_spec.proofs.Laws.ReadThen.{file-label, part_of_record}
use Rattle.listing.specs.Printed.{Bytes}
use Rattle.printing.specs.Printing.{label_bytes}
use Rattle.drawing_spec.proofs.Laws.Words.{Each, NoFeed}

no_way : {A : Type 0} → ◌≡◌ {A = Bool} true false → A
no_way e = let z : ◌≡◌ {A = ℕ} 0 1 = cc in absurd (omega arith)

-- what is printable is no line feed
letter-no-feed : (b : ℕ) → between first_letter last_letter b ≡ true → NoFeed b
letter-no-feed b e q = no_way (sym (rw q at e))

every-each : (l : Bytes) → T (every (between first_letter last_letter) l) → Each NoFeed l
unfolding every
every-each [] h = omega arith
every-each (b ∷ l) h = go (between first_letter last_letter b) refl h (every-each l)
  where
    go : (y : Bool) → between first_letter last_letter b ≡ y → T (cond y (every (between first_letter last_letter) l) false) → (T (every (between first_letter last_letter) l) → Each NoFeed l) → NoFeed b × Each NoFeed l
    go true e k f = (letter-no-feed b e, f k)
    go false e k f = absurd k

each_part : (P : ℕ → Type 0) (f : Bytes) (b s l : ℕ) → s + l ≤ b → Each P (take b f) → Each P (take l (drop s f))
each_part P [] b s l h k = rw (drop-nil {A = ℕ} s, take-nil {A = ℕ} l) (omega arith)
each_part P (x ∷ f) b zero zero h k = omega arith
each_part P (x ∷ f) zero zero (suc l) h k = absurd (omega arith)
each_part P (x ∷ f) (suc b) zero (suc l) h k = (k.0, each_part P f b zero l (omega arith) k.1)
each_part P (x ∷ f) zero (suc s) l h k = absurd (omega arith)
each_part P (x ∷ f) (suc b) (suc s) l h k = each_part P f b s l (omega arith) k.1

module _ (f : Bytes) (z : (file_refusal f).number ≡ 0) where
  letters : Each NoFeed (take (trailer_of f).begin f)
  unfolding file_refusal header_refusal
  letters = every-each _ (asked_yes 4 _ 0 (both-none (formed_refusal f) _ (both-none (header_refusal f) (body_refusal f) z).0).1)

  inside-letters : (c : ℕ) → c < (trailer_of f).count → (entry f c).label_start + (entry f c).label_length ≤ (trailer_of f).begin
  unfolding file_refusal body_refusal record_refusal
  inside-letters c h =
      let e = each_none (entry_refusal f) (trailer_of f).count (both-none _ _ (both-none (header_refusal f) (body_refusal f) z).1).0 c h in
      leb→le _ _ (and_right (leb (entry f c).label_length most_label) (leb ((entry f c).label_start + (entry f c).label_length) (trailer_of f).begin) (asked_yes 8 _ c (both-none _ _ (both-none _ _ e).1).0))

  pub label-no-feed : (c : ℕ) → c < (trailer_of f).count → Each NoFeed (label_bytes f c)
  label-no-feed c h =
      let s = (entry f c).label_start in
      let l = (entry f c).label_length in
      let n : s + l - s ≡ l = omega arith in
      rw (part_of_record f c (file-label f z c h), n) (each_part NoFeed f (trailer_of f).begin s l (inside-letters c h) letters)
