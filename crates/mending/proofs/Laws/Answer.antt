-- What Mend answers where a question refuses, where none does, and of a file that Read accepts. Nothing that a reader must believe stands here. Assumes nothing.
use Rattle.std.specs.Prelude.{◌≡◌, ◌&&◌, Result, Ok, Err, ℕ, ◌≤◌, length}
use Rattle.std.proofs.Math.Path.{refl, sym, ap}
use Rattle.std.proofs.Common.{◌∙◌}
use mathlib.Core.List.{List, [], ◌++◌}
use Rattle.std.proofs.Math.Dec.{leb}
use Rattle.std.proofs.Math.ListN.{drop}
use borrow.Author.Tests.{le-leb}
use Rattle.plan.specs.Limits.{most_file, lines_size}
use Rattle.plan.specs.Questions.{none, asked, or_else}
use Rattle.plan.proofs.Laws.Questions.{both-none, first-none}
use Rattle.plan.proofs.Laws.Kept.{none_first}
use Rattle.plan.specs.declared.Refusal.{Refusal}
use Rattle.planfile_spec.specs.FileSteps.{file_refusal}
use Rattle.planfile_spec.proofs.Laws.File as file
use Rattle.listing.specs.Printed.{lines_joined}
use Rattle.mending.specs.Mended.{would_get, mended}
use Rattle.mending.specs.Mending.{mend_given, mend_refusal, lines_of, mended_of, file_after, lines_after, Mends, MendGives}
use Rattle.mending.specs.declared.Mended.{Mended}
use Rattle.plan.proofs.Laws.Answered.{answered_none, answered_some}
use Rattle.mending.proofs.Laws.Mended.{would_get-is, mend-only, mend_keeps}

module _ (f out out' lines lines' : List ℕ) (r : Result Mended Refusal) (m : Mends f out out' lines lines' r) where
  abbrev why : Refusal
  why = mend_refusal f (length out) (length lines)

  pub unchanged : ¬ (why.number ≡ 0) → (r ≡ Err why) × (out' ≡ out) × (lines' ≡ lines)
  unfolding mended_of file_after lines_after
  unchanged z =
      let e : r ≡ Err why = m.answers ∙ answered_some why _ z in
      (e, m.bytes ∙ ap (λ (x : Result Mended Refusal). file_after x f out) e, m.told ∙ ap (λ (x : Result Mended Refusal). lines_after x f lines) e)

  read_accepts : why ≡ none → would_get (mended f) ≡ none
  unfolding mend_given
  read_accepts z =
      let e = file.mend_refusal (mended f) (length out) (length lines) in
      let a = asked 1 (leb most_file (length out) && leb lines_size (length lines)) 0 in
      let b : (or_else a (file_refusal (mended f))).number ≡ 0 = ap (λ (x : Refusal). x.number) (sym e ∙ z) in
      let (h, k) = both-none a (file_refusal (mended f)) b in
      would_get-is (mended f) ∙ sym (first-none a (file_refusal (mended f)) h) ∙ sym e ∙ z

  pub gives : why ≡ none → MendGives f out out' lines lines' r
  unfolding mended_of file_after lines_after
  gives z =
      let n = (mend-only f).as_long in
      let e : r ≡ Ok (record { file = length (mended f); lines = length (lines_of f) }) = m.answers ∙ rw z (answered_none none _ refl) in
      let b : out' ≡ mended f ++ drop (length (mended f)) out = m.bytes ∙ ap (λ (x : Result Mended Refusal). file_after x f out) e in
      record {
        answers = rw n at e;
        bytes = rw n at b;
        told = m.told ∙ ap (λ (x : Result Mended Refusal). lines_after x f lines) e;
        accepted = read_accepts z;
      }

  -- a file that Read accepts, with outputs that are long enough
  pub same : would_get f ≡ none → most_file ≤ length out → lines_size ≤ length lines → (r ≡ Ok (record { file = length f; lines = 0 })) × (out' ≡ f ++ drop (length f) out) × (lines' ≡ lines)
  unfolding mend_given asked lines_of lines_joined
  same z a b =
      let (s, t) = mend_keeps f (ap (λ (x : Refusal). x.number) (sym (would_get-is f) ∙ z)) in
      let w : why ≡ none =
      file.mend_refusal (mended f) (length out) (length lines)
      ∙ rw (le-leb most_file (length out) a, le-leb lines_size (length lines) b) (none_first (file_refusal (mended f)))
      ∙ sym (would_get-is (mended f)) ∙ ap would_get s ∙ z in
      let g = gives w in
      let l : lines_of f ≡ [] = rw t refl in
      let e : r ≡ Ok (record { file = length f; lines = length (lines_of f) }) = g.answers in
      let o : out' ≡ mended f ++ drop (length f) out = g.bytes in
      let q : lines' ≡ lines_of f ++ drop (length (lines_of f)) lines = g.told in
      (rw l at e, rw s at o, rw l at q)
