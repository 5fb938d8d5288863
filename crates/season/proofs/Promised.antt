-- E14'S PROMISES, about reports and pools: statements only; each proof is one name. Assumes nothing.
use Rattle.std.specs.Prelude.{◌≡◌, List, [], ◌++◌, false, ◌&&◌, ◌+◌, ◌≤◌, ◌<◌, T, length, Result, Ok}
use Rattle.plan.specs.declared.Refusal.{Refusal}
use Rattle.season.specs.declared.Report.{Report}
use Rattle.season.specs.Report.{most_plans, Figure, report, nothing, Plans}
use Rattle.season.specs.Pool.{sound, pool, refuses, folder, Files}
use Rattle.season.specs.Worked.{Rows}
use Rattle.season.proofs.Laws.Report as reports
use Rattle.season.proofs.Laws.Promised as laws
use Rattle.season.proofs.Laws.Worked as worked-laws

-- "The report of no plan has zeros throughout."
pub report-none : report [] ≡ nothing
report-none = reports.report-none

-- 22 passes the report of at most 1,024 plans, each within the limits per plan.
pub report-sound : (xs : List Figure) → Plans xs → length xs ≤ most_plans → T (sound (report xs))
report-sound = laws.report-sound

-- "Reports of two folders pool into the report of both together, if that holds at most 1,024 plans",
pub pool_joins : (xs ys : List Figure) → Plans xs → Plans ys → length xs + length ys ≤ most_plans → pool (report xs) (report ys) ≡ Ok (report (xs ++ ys))
pool_joins = laws.pool_joins

-- "whichever of the two comes first": any two reports, refused or not, anybody's or not.
pub pool_turned : (a b : Report) → pool a b ≡ pool b a
pool_turned = laws.pool_turned

-- The report of no plan changes nothing.
pub pool-none : (xs : List Figure) → Plans xs → length xs ≤ most_plans → (pool nothing (report xs) ≡ Ok (report xs)) × (pool (report xs) nothing ≡ Ok (report xs))
pool-none = laws.pool-none

-- "beyond that the number is 4";
pub pool_many : (a b : Report) → T (sound a) → T (sound b) → most_plans < a.plans + b.plans → pool a b ≡ refuses 4
pool_many = laws.pool_many

-- "22, tested before that 4": of either report, however many plans there are together.
pub pool-wrong : (a b : Report) → sound a && sound b ≡ false → pool a b ≡ refuses 22
pool-wrong = laws.pool-wrong

-- A folder's answers, added one after another, are the report of the plans in it; a refused file adds nothing;
pub folder-report : (rs : List (Result Report Refusal)) (xs : List Figure) → Files rs xs → Plans xs → length xs ≤ most_plans → folder rs ≡ Ok (report xs)
folder-report = laws.folder-report

-- of more than 1,024 plans the answer is 4.
pub folder_many : (rs : List (Result Report Refusal)) (xs : List Figure) → Files rs xs → Plans xs → most_plans < length xs → folder rs ≡ refuses 4
folder_many = laws.folder_many

-- Sheets ◆A, ◆B and ◆C, and each question at its limit and one past it.
pub worked : Rows
worked = worked-laws.worked
