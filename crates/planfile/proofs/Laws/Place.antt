-- Where the lent bytes that Label returns lie, and how many they are. Assumes nothing.
use Rattle.std.specs.Prelude.{◌≡◌, List, [], ℕ, ◌+◌, ◌-◌, ◌≤◌, length, take, drop}
use Rattle.std.proofs.Common.{ap, ◌∙◌, arith, length-drop, length-take-le}
use Rattle.std.specs.Borrow.{Bor}
use Rattle.plan.specs.Questions.{none}
use Rattle.planfile_spec.specs.Format.{entry}
use Rattle.planfile_spec.specs.Reading.{label_refusal, label_part}
use Rattle.planfile.specs.Subslice.{Subslice}
use Rattle.planfile_spec.proofs.Laws.Label.{part_none, part-inside}
use Rattle.planfile_spec.proofs.Laws.ReadThen.{part_of_record}

module _ (file : Bor (List ℕ)) (c : ℕ) (r : Bor (List ℕ)) (l : Subslice file (label_part file.now c) r) where
  abbrev f : List ℕ
  f = file.now

  pub label_given : label_refusal f c ≡ none
      → (r.ref_ptr ≡ (file.ref_ptr.0, file.ref_ptr.1 + (entry f c).label_start)) × (length r.now ≡ (entry f c).label_length) × (r.now ≡ take (entry f c).label_length (drop (entry f c).label_start f))
  label_given z =
      let s = (entry f c).label_start in
      let n = (entry f c).label_length in
      let p = part_of_record f c z in
      let q : r.ref_ptr.1 ≡ file.ref_ptr.1 + s = l.place ∙ rw p in
      let e : s + n - s ≡ n = omega arith in
      let b : r.now ≡ take n (drop s f) = l.bytes ∙ rw (p, e) in
      let h : s + n ≤ length f = rw p at (part-inside f c).1 in
      let m : n ≤ length (drop s f) = omega (arith, length-drop s f) in
      ((λ i. (l.block i, q i)), ap length b ∙ length-take-le n (drop s f) m, b)

  pub label-refused : ¬ ((label_refusal f c).number ≡ 0) → (r.ref_ptr ≡ file.ref_ptr) × (r.now ≡ [])
  label-refused z =
      let p = part_none f c z in
      let q : r.ref_ptr.1 ≡ file.ref_ptr.1 = l.place ∙ rw p (omega arith) in
      ((λ i. (l.block i, q i)), l.bytes ∙ rw p)
