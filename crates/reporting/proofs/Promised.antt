-- WHAT IS PROVED OF A FOLDER'S ANSWERS (document 02, E14): statements only; each proof is one name. Assumes nothing.
use Rattle.std.specs.Prelude.{List, map, ℕ, ℤ, length, Result}
use Rattle.plan.specs.declared.Record.{Record}
use Rattle.season.specs.Pool.{Files}
use Rattle.plan.specs.declared.Refusal.{Refusal}
use Rattle.season.specs.declared.Report.{Report}
use Rattle.reporting.specs.declared.Draft.{Draft}
use Rattle.reporting.specs.Reporting.{figure_of, table_left, report_of, Reports, Drafts}
use Rattle.reporting.specs.Folder.{accepted, Answered}
use Rattle.reporting.proofs.Laws.Folder as laws

-- Every folder has such calls,
pub folder_answers : (fs : List (List ℕ)) → (rs : List (Result Report Refusal)) × Answered fs rs
folder_answers = laws.folder_answers

-- and what they answered is the report of one plan for each file that Read accepts, in turn, and a refusal for every other.
pub folder_files : (fs : List (List ℕ)) (rs : List (Result Report Refusal)) → Answered fs rs → Files rs (map figure_of (accepted fs))
folder_files = laws.folder_files

-- The program `folder` fills no table: what it is answered is what the call answers that does.
pub draft_reports : (f : List ℕ) (t : List Record) (s s' : List ℕ) (ps ps' : List ℤ) (d : Result Draft Refusal) → Drafts f (length t) s s' ps ps' d → Reports f t (table_left (report_of d) f t) s s' ps ps' (report_of d)
draft_reports = laws.draft_reports
