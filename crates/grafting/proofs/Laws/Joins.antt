-- What a call of Join promises: laws of the definitions in specs/Joins.antt. Assumes nothing.
use Rattle.std.specs.Prelude.{◌≡◌, Result, Ok, Err, List, ◌++◌, ℕ, ◌+◌, ◌*◌, ◌≤◌, T, take, drop}
use Rattle.std.proofs.Common.{sym, ap, ◌∙◌, arith}
use Rattle.std.proofs.Math.Decide.{ℕ_discrete}
use Rattle.std.proofs.Math.ListN.{length}
use Rattle.std.proofs.lemmas.List.{length-map}
use Rattle.std.proofs.Math.Seq.{take-append_seam}
use Rattle.plan.specs.Limits.{most_allowance, scratch_size}
use Rattle.plan.specs.Plan.{Table, Is, within}
use Rattle.plan.specs.Records.{bare, cells_of}
use Rattle.plan.specs.Questions.{layout, none, refusal, layout_given}
use Rattle.plan.proofs.Laws.Answered.{answered_none, answered_some}
use Rattle.plan.specs.declared.Record.{Record}
use Rattle.plan.specs.declared.Refusal.{Refusal}
use Rattle.rules.specs.Placement.{left_extent, right_extent}
use Rattle.contours.specs.Sheet.{sheet}
use Rattle.graft.specs.Joined.{joined, joined_records}
use Rattle.graft.specs.Sequence.{join_refusal}
use Rattle.graft.proofs.Theorems.{joined-cells, second_reaches, first_reaches, second_laid, joined_laid}
use Rattle.graft.proofs.Laws.Joined.{length-joined}
use Rattle.graft.proofs.Laws.Laid.{first_sound, second_sound}
use Rattle.graft.proofs.Laws.Sequence.{Accepted, accepted}
use Rattle.grafting.specs.Joins.{join_answered, table_after, Joins}

pub cells-length : (t : List Record) → length (cells_of t) ≡ length t
unfolding cells_of
cells-length t = length-map t bare

pub records-length : (t u : List Record) (c : ℕ) → length (joined_records t u c) ≡ length t + length u
records-length t u c =
    sym (cells-length (joined_records t u c)) ∙ ap length (joined-cells t u c) ∙ length-joined (cells_of t) (cells_of u) c ∙ (let p = cells-length t in let q = cells-length u in omega arith)

module _ (t u : List Record) (c : ℕ) (o o' : List Record) (r : Result ℕ Refusal) (g : Joins t u c o o' r) where
  abbrev why : Refusal
  why = join_refusal (length o) (cells_of t) (cells_of u) c

  -- a refusal is answered by its number and cell, and leaves the table as it was
  pub unchanged : ¬ (why.number ≡ 0) → (r ≡ Err why) × (o' ≡ o)
  unfolding join_answered table_after
  unchanged z = let e : r ≡ Err why = g.answers ∙ answered_some why _ z in (e, rw e at g.table)

  -- where no question refuses: the joined records, and the rest as it was
  pub gives : why.number ≡ 0 → (r ≡ Ok (length t + length u)) × (o' ≡ joined_records t u c ++ drop (length t + length u) o)
  unfolding join_answered table_after
  gives z = let e : r ≡ Ok (length t + length u) = g.answers ∙ answered_none why _ z in (e, rw e at g.table)

-- ---- of an answer alone
module _ (t u : List Record) (c : ℕ) (o o' : List Record) (n : ℕ) (g : Joins t u c o o' (Ok n)) where
  abbrev T₁ : Table
  T₁ = cells_of t

  abbrev U₁ : Table
  U₁ = cells_of u

  abbrev J : Table
  J = cells_of (take n o')

  no-refusal : (join_refusal (length o) T₁ U₁ c).number ≡ 0
  no-refusal = go (ℕ_discrete (join_refusal (length o) T₁ U₁ c).number 0)
    where
      go : Dec ((join_refusal (length o) T₁ U₁ c).number ≡ 0) → (join_refusal (length o) T₁ U₁ c).number ≡ 0
      go (yes z) = z
      go (no z) = absurd (let e = (unchanged t u c o o' (Ok n) g z).0 in let y : ◌≡◌ {A = ℕ} 0 1 = cc in omega arith)

  count : n ≡ length t + length u
  count = let e = (gives t u c o o' (Ok n) g no-refusal).0 in cc

  -- the first n records of the table are the joined ones
  pub written : take n o' ≡ joined_records t u c
  written =
      let e : n ≡ length (joined_records t u c) = count ∙ sym (records-length t u c) in
      rw ((gives t u c o o' (Ok n) g no-refusal).1, e) (take-append_seam (joined_records t u c) _)

  -- and the table that Layout and Check see in them is THE joined one
  pub holds-joined : J ≡ joined T₁ U₁ c
  holds-joined = ap cells_of written ∙ joined-cells t u c

  fine : Accepted (length o) T₁ U₁ c
  fine = accepted (length o) T₁ U₁ c no-refusal

  pub second_extends : (al b : ℕ) → Is U₁ b
      → (left_extent J (sheet J al) (length t + b) ≡ left_extent U₁ (sheet U₁ al) b) × (right_extent J (sheet J al) (length t + b) ≡ right_extent U₁ (sheet U₁ al) b)
  second_extends al b i =
      rw (holds-joined, ← cells-length t) (second_reaches T₁ U₁ (first_sound (length o) T₁ U₁ c fine) (second_sound (length o) T₁ U₁ c fine) fine.some_first fine.some_second c fine.named al b i)

  pub first_extends : (al a : ℕ) → Is T₁ a → ¬ T (within T₁ a c)
      → (left_extent J (sheet J al) a ≡ left_extent T₁ (sheet T₁ al) a) × (right_extent J (sheet J al) a ≡ right_extent T₁ (sheet T₁ al) a)
  first_extends al a i h =
      rw holds-joined (first_reaches T₁ U₁ (first_sound (length o) T₁ U₁ c fine) (second_sound (length o) T₁ U₁ c fine) fine.some_first fine.some_second c fine.named al a i h)

  -- Layout refuses nothing of the second plan, nor of the joined one
  pub second_has_sheet : (al s p : ℕ) → al ≤ most_allowance → scratch_size ≤ s → 2 * length u ≤ p → refusal layout (layout_given U₁ al s p) ≡ none
  second_has_sheet al s p x y z = second_laid (length o) T₁ U₁ c no-refusal al s p x y (rw (cells-length u) z)

  pub joined_has_sheet : (al s p : ℕ) → al ≤ most_allowance → scratch_size ≤ s → 2 * n ≤ p → refusal layout (layout_given J al s p) ≡ none
  joined_has_sheet al s p x y z =
      rw holds-joined (joined_laid (length o) T₁ U₁ c no-refusal al s p x y (let q = length-joined T₁ U₁ c in let e = cells-length t in let f = cells-length u in let k = count in omega arith))
