-- A table filled with the records of a plan that was read: for the entries that fill one. Nothing that a reader must believe stands here. Assumes nothing.
use Rattle.std.specs.Prelude.{◌≡◌, List, ◌++◌, ℕ, ◌≤◌, ◌<◌, length, drop}
use Rattle.std.proofs.Common.{arith}
use Rattle.plan.specs.Limits.{most_cells}
use Rattle.plan.specs.Questions.{none}
use Rattle.plan.specs.declared.Record.{Record}
use Rattle.planfile_spec.specs.Format.{trailer_of, entry, records_of}
use Rattle.planfile_spec.specs.Reading.{columns_of}
use Rattle.planfile_spec.proofs.Laws.Examined.{column-at}
use Rattle.planfile_spec.specs.Read.{Reading}
use Rattle.records.specs.Together.{record_in, filled}
use Rattle.records.proofs.Laws.Together.{filled-all}

module _ (f : List ℕ) (h : (trailer_of f).count ≤ most_cells) where
  abbrev plan : Reading
  plan = columns_of none (trailer_of f).allowance (trailer_of f).count (entry f)

  plan_record : (c : ℕ) → c < (trailer_of f).count → record_in plan c ≡ entry f c
  unfolding columns_of
  plan_record c l =
      rw (column-at (λ c. (entry f c).parent) _ c h l, column-at (λ c. (entry f c).kind) _ c h l, column-at (λ c. (entry f c).width) _ c h l, column-at (λ c. (entry f c).depth) _ c h l, column-at (λ c. (entry f c).rank) _ c h l, column-at (λ c. (entry f c).label_length) _ c h l, column-at (λ c. (entry f c).label_start) _ c h l)

  pub plan-records : (t : List Record) → most_cells ≤ length t → filled plan (trailer_of f).count t ≡ records_of f ++ drop (trailer_of f).count t
  unfolding records_of
  plan-records t l = filled-all plan (entry f) (trailer_of f).count t (omega arith) plan_record
