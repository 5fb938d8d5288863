-- Report with long enough buffers, and a folder's answers pooled one after another. Assumes nothing.
use Rattle.std.specs.Prelude.{◌≡◌, refl, List, [], ◌∷◌, map, ◌&&◌, ℕ, ◌*◌, ◌≤◌, ◌<◌, leb, ℤ, pos, length, replicate, Result, Ok, Err}
use Rattle.std.proofs.Common.{sym, ap, ◌∙◌, arith, eq-eqb, ne_eqb, le-leb}
use Rattle.std.proofs.Math.Decide.{ℕ_discrete}
use Rattle.std.proofs.lemmas.List.{length-map, length-replicate}
use Rattle.plan.specs.Limits.{most_cells, scratch_size}
use Rattle.plan.specs.Questions.{none, asked, or_else, answered}
use Rattle.plan.proofs.Laws.Questions.{first_some}
use Rattle.plan.proofs.Laws.Kept.{asked_true, none_first, or_assoc}
use Rattle.plan.specs.declared.Record.{Record}
use Rattle.plan.specs.declared.Refusal.{Refusal}
use Rattle.planfile_spec.specs.Format.{trailer_of}
use Rattle.planfile_spec.specs.FileSteps.{formed_refusal, header_refusal, body_refusal, file_refusal}
use Rattle.planfile_spec.proofs.Laws.File as Law
use Rattle.planfile_spec.proofs.Laws.Examined.{formed_read}
use Rattle.season.specs.Report.{most_plans, report, Plans}
use Rattle.season.specs.Pool.{refuses, folder, Files}
use Rattle.season.proofs.Promised.{folder-report, folder_many}
use Rattle.season.specs.declared.Report.{Report}
use Rattle.plan.proofs.Laws.Answered.{answered_none, answered_some}
use Rattle.reporting.specs.declared.Draft.{Draft}
use Rattle.reporting.specs.Reporting.{file_table, figure_of, report_refusal, reported_of, table_left, scratch_left, positions_left, draft_of, report_of, Reports, Drafts}
use Rattle.reporting.specs.Folder.{read_no, accepted, Answered}
use Rattle.reporting.proofs.Laws.Reporting.{refusal_is, count_few, fit, sheet_bounds}

-- ---- with long enough buffers, Read's refusal
pub as_read : (f : List ℕ) (room s p : ℕ) → most_cells ≤ room → scratch_size ≤ s → 2 * (trailer_of f).count ≤ p → report_refusal f room s p ≡ read_no f room
unfolding file_refusal header_refusal
as_read f room s p h k l =
    let a : asked 1 (leb most_cells room && leb scratch_size s) 0 ≡ none = rw (le-leb most_cells room h, le-leb scratch_size s k) (asked_true 0 0) in
    let b : asked 1 (leb (2 * (trailer_of f).count) p) 0 ≡ none = rw (le-leb (2 * (trailer_of f).count) p l) (asked_true 0 0) in
    let c : asked 1 (leb most_cells room) 0 ≡ none = rw (le-leb most_cells room h) (asked_true 0 0) in
    let ours : report_refusal f room s p ≡ file_refusal f = refusal_is f room s p ∙ rw (a, b) (none_first _ ∙ ap (or_else (formed_refusal f)) (none_first _) ∙ sym (or_assoc (formed_refusal f) _ (body_refusal f))) in
    let theirs : read_no f room ≡ file_refusal f = Law.read_refusal f room ∙ rw c (none_first (file_refusal f)) in
    ours ∙ sym theirs

-- and 512 positions are always enough: a file whose count is larger gets its refusal before they are asked for
pub as_read_always : (f : List ℕ) (room s p : ℕ) → most_cells ≤ room → scratch_size ≤ s → 2 * most_cells ≤ p → report_refusal f room s p ≡ read_no f room
unfolding file_refusal header_refusal
as_read_always f room s p h k l = go (ℕ_discrete (formed_refusal f).number 0)
  where
    go : Dec ((formed_refusal f).number ≡ 0) → report_refusal f room s p ≡ read_no f room
    go (yes z) = as_read f room s p h k (omega (arith, (formed_read f z).full.few))
    go (no z) =
        let a : asked 1 (leb most_cells room && leb scratch_size s) 0 ≡ none = rw (le-leb most_cells room h, le-leb scratch_size s k) (asked_true 0 0) in
        let c : asked 1 (leb most_cells room) 0 ≡ none = rw (le-leb most_cells room h) (asked_true 0 0) in
        let ours : report_refusal f room s p ≡ formed_refusal f = refusal_is f room s p ∙ rw a (none_first _ ∙ first_some (formed_refusal f) _ z) in
        let theirs : read_no f room ≡ formed_refusal f = Law.read_refusal f room ∙ rw c (none_first (file_refusal f) ∙ or_assoc (formed_refusal f) _ (body_refusal f) ∙ first_some (formed_refusal f) _ z) in
        ours ∙ sym theirs

-- a plan that Report does not refuse is within the limits per plan
figure_real : (f : List ℕ) (room s p : ℕ) → (report_refusal f room s p).number ≡ 0 → ((figure_of f).cells ≤ 256) × ((figure_of f).width ≤ 262143) × ((figure_of f).rows ≤ 256)
unfolding figure_of
figure_real f room s p z =
    let b = sheet_bounds (file_table f) (fit f room s p z) (trailer_of f).allowance in
    (count_few f room s p z, b.0, b.1)

pub real : (f : List ℕ) (room s p : ℕ) → report_refusal f room s p ≡ none → Plans (figure_of f ∷ [])
real f room s p e =
    let (c, w, h) = figure_real f room s p (ap (λ (x : Refusal). x.number) e) in
    Plans.more c w h Plans.no_plan

-- ---- an answer is that of the file alone
read_whole : (f : List ℕ) (room : ℕ) → most_cells ≤ room → read_no f room ≡ read_no f most_cells
read_whole f room h =
    let a : asked 1 (leb most_cells room) 0 ≡ none = rw (le-leb most_cells room h) (asked_true 0 0) in
    Law.read_refusal f room ∙ ap (λ (x : Refusal). or_else x (file_refusal f)) (a ∙ sym (asked_true 0 0)) ∙ sym (Law.read_refusal f most_cells)

answer-of-file : (f : List ℕ) (t t' : List Record) (s s' : List ℕ) (ps ps' : List ℤ) (r : Result Report Refusal) → Reports f t t' s s' ps ps' r
    → most_cells ≤ length t → scratch_size ≤ length s → 2 * most_cells ≤ length ps → r ≡ reported_of f (read_no f most_cells)
answer-of-file f t t' s s' ps ps' r g h k l = g.answers ∙ ap (reported_of f) (as_read_always f (length t) (length s) (length ps) h k l ∙ read_whole f (length t) h)

-- ---- a folder
accepted_yes : (f : List ℕ) (fs : List (List ℕ)) → (read_no f most_cells).number ≡ 0 → accepted (f ∷ fs) ≡ f ∷ accepted fs
unfolding accepted
accepted_yes f fs z = rw (eq-eqb (read_no f most_cells).number 0 z)

accepted-no : (f : List ℕ) (fs : List (List ℕ)) → ¬ ((read_no f most_cells).number ≡ 0) → accepted (f ∷ fs) ≡ accepted fs
unfolding accepted
accepted-no f fs z = rw (ne_eqb (read_no f most_cells).number 0 z)

reported_yes : (f : List ℕ) (r : Refusal) → r.number ≡ 0 → reported_of f r ≡ Ok (report (figure_of f ∷ []))
unfolding reported_of
reported_yes f r z = answered_none r _ z

reported_no : (f : List ℕ) (r : Refusal) → ¬ (r.number ≡ 0) → reported_of f r ≡ Err r
unfolding reported_of
reported_no f r z = answered_some r _ z

pub folder_files : (fs : List (List ℕ)) (rs : List (Result Report Refusal)) → Answered fs rs → Files rs (map figure_of (accepted fs))
folder_files fs rs Answered.no_file = unfold accepted in Files.no_file
folder_files (f ∷ fs) (r ∷ rs) (Answered.next {t = t} {t' = t'} {s = s} {s' = s'} {ps = ps} {ps' = ps'} g h k l more) = go (ℕ_discrete (read_no f most_cells).number 0) (folder_files fs rs more)
  where
    e : r ≡ reported_of f (read_no f most_cells)
    e = answer-of-file f t t' s s' ps ps' r g h k l

    go : Dec ((read_no f most_cells).number ≡ 0) → Files rs (map figure_of (accepted fs)) → Files (r ∷ rs) (map figure_of (accepted (f ∷ fs)))
    go (yes z) m = rw (e, reported_yes f (read_no f most_cells) z, accepted_yes f fs z) (Files.plan m)
    go (no z) m = rw (e, reported_no f (read_no f most_cells) z, accepted-no f fs z) (Files.refused m)

-- each that Read accepts is within the limits per plan
folder_real : (fs : List (List ℕ)) → Plans (map figure_of (accepted fs))
folder_real [] = unfold accepted in Plans.no_plan
folder_real (f ∷ fs) = go (ℕ_discrete (read_no f most_cells).number 0) (folder_real fs)
  where
    go : Dec ((read_no f most_cells).number ≡ 0) → Plans (map figure_of (accepted fs)) → Plans (map figure_of (accepted (f ∷ fs)))
    go (yes z) m =
        let e = as_read_always f most_cells scratch_size (2 * most_cells) (omega arith) (omega arith) (omega arith) in
        let (c, w, h) = figure_real f most_cells scratch_size (2 * most_cells) (ap (λ (x : Refusal). x.number) e ∙ z) in
        rw (accepted_yes f fs z) (Plans.more c w h m)
    go (no z) m = rw (accepted-no f fs z) m

pub folder_pools : (fs : List (List ℕ)) (rs : List (Result Report Refusal)) → Answered fs rs → length (accepted fs) ≤ most_plans → folder rs ≡ Ok (report (map figure_of (accepted fs)))
folder_pools fs rs g h = folder-report rs (map figure_of (accepted fs)) (folder_files fs rs g) (folder_real fs) (rw (length-map (accepted fs) figure_of) h)

pub folder_too_many : (fs : List (List ℕ)) (rs : List (Result Report Refusal)) → Answered fs rs → most_plans < length (accepted fs) → folder rs ≡ refuses 4
folder_too_many fs rs g h = folder_many rs (map figure_of (accepted fs)) (folder_files fs rs g) (folder_real fs) (rw (length-map (accepted fs) figure_of) h)

-- ---- what the program is answered, and that every folder has its answers
report-of : (f : List ℕ) (r : Refusal) → report_of (answered r (draft_of f)) ≡ reported_of f r
unfolding report_of draft_of reported_of
report-of f r = go (ℕ_discrete r.number 0)
  where
    go : Dec (r.number ≡ 0) → report_of (answered r (draft_of f)) ≡ answered r (report (figure_of f ∷ []))
    go (yes z) = rw (answered_none r (draft_of f) z, answered_none r (report (figure_of f ∷ [])) z)
    go (no z) = rw (answered_some r (draft_of f) z, answered_some r (report (figure_of f ∷ [])) z)

pub draft_reports : (f : List ℕ) (t : List Record) (s s' : List ℕ) (ps ps' : List ℤ) (d : Result Draft Refusal) → Drafts f (length t) s s' ps ps' d → Reports f t (table_left (report_of d) f t) s s' ps ps' (report_of d)
draft_reports f t s s' ps ps' d g = record { answers = ap report_of g.answers ∙ report-of f _; table = refl; scratch = g.scratch; positions = g.positions }

blank : Record
blank = record { parent = 0; kind = 0; width = 0; depth = 0; rank = 0; label_length = 0; label_start = 0 }

pub folder_answers : (fs : List (List ℕ)) → (rs : List (Result Report Refusal)) × Answered fs rs
folder_answers [] = ([], Answered.no_file)
folder_answers (f ∷ fs) =
    let t : List Record = replicate most_cells blank in
    let s : List ℕ = replicate scratch_size 0 in
    let ps : List ℤ = replicate (2 * most_cells) (pos 0) in
    let r : Result Report Refusal = reported_of f (report_refusal f (length t) (length s) (length ps)) in
    let (rs, m) = folder_answers fs in
    let g : Reports f t (table_left r f t) s (scratch_left r s) ps (positions_left r f ps) r = record { answers = refl; table = refl; scratch = refl; positions = refl } in
    (r ∷ rs, Answered.next g (omega (arith, length-replicate most_cells blank)) (omega (arith, length-replicate {A = ℕ} scratch_size 0)) (omega (arith, length-replicate (2 * most_cells) (pos 0))) m)
