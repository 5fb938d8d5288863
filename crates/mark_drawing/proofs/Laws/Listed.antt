-- The listing of a plan, read back and marked. Assumes nothing.
use Rattle.std.specs.Prelude.{◌≡◌, List, ◌++◌, ℕ, ◌*◌, ◌≤◌, ℤ, pos, length, take, drop, replicate, Result, Ok}
use Rattle.std.proofs.Math.Path.{refl}
use Rattle.std.proofs.Common.{ap, sym, ◌∙◌, arith, take_at}
use Rattle.std.proofs.Math.ListN.{length-replicate}
use borrow.Author.Tests.{le-leb}
use Rattle.whole.specs.Whole.{plus}
use Rattle.plan.specs.Limits.{most_cells, scratch_size, listing_size}
use Rattle.plan.proofs.Laws.Columns.{table-length}
use Rattle.plan.specs.Questions as questions
use Rattle.plan.specs.Questions.{mark, list, refusal, mark_given, list_given}
use Rattle.rules.specs.Placement.{width, rows}
use Rattle.positions.specs.Written.{corners, written}
use Rattle.layout.specs.Laid.{laid_of, positions_after, scratch_after, Lays}
use Rattle.layout.proofs.Laws.Promised.{promised}
use Rattle.planfile_spec.specs.Read.{Reading}
use Rattle.listing.specs.Printed.{Bytes}
use Rattle.printing.specs.Printing.{read_table, ours, text_of, Taken, size, listed_of, out_after, Lists}
use Rattle.plan.proofs.Laws.Answered.{answered_none, not_refused}
use Rattle.plan.specs.declared.Measures.{Measures}
use Rattle.plan.specs.declared.Refusal.{Refusal}
use Rattle.printing.proofs.Laws.Taken.{taken_few, taken-layout}
use Rattle.drawing_listing.proofs.Listed.{listing-read}
use Rattle.drawing.specs.Drawn.{most_text}
use Rattle.mark_spec.specs.Marked.{full_of, marked_of, mark_scratch_after, Marks}
use Rattle.mark_spec.proofs.Promised.{full_with}
use Rattle.mark_spec.proofs.Laws.Marked.{unrefused}
use Rattle.mark_spec.specs.declared.Marked.{Marked}
use Rattle.mark_drawing.specs.Outcome.{no_places, mark_at, taken, by_said, outcome}

-- ---- what List answers of a listing
-- its length is that of the listing, and at most what question 1 asks for; its bytes are the listing's
listed-length : (f out out' : Bytes) (k : ℕ) → Lists f out out' (Ok k) → k ≡ length (text_of f)
unfolding listed_of
listed-length f out out' k l =
    let q = refusal list (list_given (length out)) in
    cc (l.answers ∙ answered_none q (length (text_of f)) (not_refused q (length (text_of f)) k l.answers))

listed_few : (f out out' : Bytes) (k : ℕ) → Lists f out out' (Ok k) → k ≤ listing_size
unfolding size
listed_few f out out' k l = l.suffices

listed-bytes : (f out out' : Bytes) (k : ℕ) → Lists f out out' (Ok k) → take k out' ≡ text_of f
unfolding out_after
listed-bytes f out out' k l = ap (take k) l.bytes ∙ take_at (text_of f) (drop k out) k (sym (listed-length f out out' k l))

module _ (p : Reading) (f : Bytes) (h : Taken p f) where
  abbrev n : ℕ
  n = p.columns.count

  abbrev w : ℕ
  w = plus (width (read_table p) (ours p))

  abbrev r : ℕ
  r = plus (rows (read_table p) (ours p))

  abbrev sheet : Measures
  sheet = record { width = w; rows = r }

  long : length (read_table p) ≡ n
  long = let t = p.columns in table-length t.parent t.kind t.width t.depth t.rank t.count

  abbrev zeros : List ℕ
  zeros = replicate scratch_size 0

  zeros-long : length zeros ≡ scratch_size
  zeros-long = length-replicate {A = ℕ} scratch_size 0

  -- Layout writes it so
  lays : Lays (read_table p) p.allowance zeros (scratch_after (Ok sheet) zeros) no_places (written no_places (ours p) (length (read_table p))) (Ok sheet)
  unfolding laid_of positions_after questions.answered
  lays =
      record {
        answers = rw (taken-layout p f h (length zeros) (length no_places) (omega (arith, zeros-long)) (omega (arith, taken_few p f h, length-replicate {A = ℤ} (2 * most_cells) (pos 0))));
        positions = refl;
        scratch = refl;
      }

  abbrev places : List ℤ
  places = written no_places (ours p) (length (read_table p))

  answered : Result Marked Refusal
  answered = marked_of (read_table p) places p.allowance (refusal mark (mark_given (read_table p) places p.allowance (length zeros)))

  call : Marks (read_table p) places p.allowance zeros (mark_scratch_after answered zeros) answered
  unfolding answered
  call = record { answers = refl; scratch = refl }

  full : answered ≡ Ok (full_of w r)
  full =
      let q = promised (read_table p) p.allowance _ _ _ _ sheet lays in
      (full_with (read_table p) places p.allowance zeros (mark_scratch_after answered zeros) answered call (unrefused (read_table p) places p.allowance (length zeros) (omega (arith, zeros-long)) ∙ q.unrefused) w r).1
      (record { narrowest = record { keeps = q.keeps; none_narrower = λ o k. (q.least o k).wide }; wide = q.wide; deep = q.deep })

  marked : mark_at (read_table p) p.allowance (corners (ours p) 0 n ++ drop (2 * n) no_places) ≡ Ok (full_of w r)
  unfolding mark_at answered written
  marked = rw (zeros-long, long) at full

  pub listing_full : length (text_of f) ≤ most_text → outcome n (read_table p) p.allowance (text_of f) ≡ Ok (full_of w r)
  unfolding outcome by_said taken
  listing_full l = rw (le-leb n most_cells (taken_few p f h), le-leb (length (text_of f)) most_text l, listing-read p f h) (ap taken marked)

  pub printed-full : (out out' : Bytes) (k : ℕ) → Lists f out out' (Ok k) → outcome n (read_table p) p.allowance (take k out') ≡ Ok (full_of w r)
  printed-full out out' k l =
      let few : length (text_of f) ≤ most_text = omega (arith, listed-length f out out' k l, listed_few f out out' k l) in
      ap (outcome n (read_table p) p.allowance) (listed-bytes f out out' k l) ∙ listing_full few
