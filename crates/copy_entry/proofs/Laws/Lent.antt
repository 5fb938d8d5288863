-- From the columns and label columns of a lent table to its records: Copy answers the same. Nothing that a reader must believe stands here. Assumes nothing.
use Rattle.std.specs.Prelude.{◌≡◌, List, [], ◌∷◌, Result, Err, map, ℕ, ◌<◌, length}
use Rattle.std.proofs.Math.Path.{refl, sym}
use Rattle.std.proofs.Common.{◌∙◌}
use Rattle.std.proofs.Math.ListN.{length-map}
use Rattle.plan.specs.Limits.{most_cells}
use Rattle.plan.specs.Lists.{from, mem, some}
use Rattle.plan.specs.Records.{bare, cells_of}
use Rattle.plan.specs.declared.Record.{Record}
use Rattle.plan.specs.declared.Lettered.{Lettered}
use Rattle.plan.specs.Questions.{in_file, puts, copy_output, copy, copy_given}
use Rattle.plan.proofs.Laws.Crowded.{refusal-crowded, crowded_refuses}
use Rattle.plan.specs.declared.Refusal.{Refusal}
use Rattle.planfile_spec.specs.Format.{label_in}
use Rattle.content.specs.Clean.{copy_refusal}
use Rattle.copying.specs.Copied.{copied_of, output_after, Copies}
use Rattle.plan.proofs.Laws.Answered.{answered_some}
use Rattle.records.specs.Apart.{lent_lettered, records_in}
use Rattle.records.proofs.Laws.Apart.{of-lettered}
use Rattle.entry_laws.proofs.Laws.Lent.{no}

module _ (letters : List ℕ) (al : ℕ) (out out' : List ℕ) (d : Result ℕ Refusal) where
  abbrev uncopied : Refusal
  uncopied = no (copy_output (length out) ∷ [])

  cells-length : (u : List Record) → length (cells_of u) ≡ length u
  unfolding cells_of
  cells-length u = length-map u bare

  copied_crowded : (u : List Record) → most_cells < length u → copied_of u letters al (copy_refusal u letters al (length out)) ≡ Err uncopied
  unfolding copied_of copy_refusal copy_given in_file puts from mem some
  copied_crowded u h =
      rw (refusal-crowded copy (copy_given (cells_of u) (map label_in u) letters al (length out)) (λ _. refl) refl refl (rw (cells-length u) h)) (answered_some uncopied _ (crowded_refuses _))

  copies_crowded : (u v : List Record) → most_cells < length u → most_cells < length v → Copies u letters al out out' d → Copies v letters al out out' d
  unfolding output_after
  copies_crowded u v p q g =
      let e : d ≡ Err uncopied = g.answers ∙ copied_crowded u p in
      record { answers = e ∙ sym (copied_crowded v q); output = rw e (rw e at g.output) }

  pub copy-lent : (t : List Record) (r : Lettered) → r ≡ lent_lettered t → Copies (records_in r) letters al out out' d → Copies t letters al out out' d
  copy-lent t r e h = of-lettered (λ u. Copies u letters al out out' d) t copies_crowded (rw e at h)
