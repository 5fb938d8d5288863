-- What the questions of a file establish, and the plan that is read from it. Assumes nothing.
use Rattle.std.specs.Prelude.{◌≡◌, refl, List, map, ℕ, zero, suc, ◌+◌, ◌*◌, ◌≤◌, ◌<◌, leb, length, get_or, set}
use Rattle.std.proofs.Common.{sym, ap, ◌∙◌, leb→le, eqb→eq, length-set, get_or-set_same, get_or-set_other}
use native.Mathlib.Omega.{arith}
use Rattle.std.proofs.Math.Decide.{ℕ_discrete}
use Rattle.std.proofs.lemmas.List.{length-replicate}
use borrow.Author.Tests.{eq-eqb, ne_eqb}
use Rattle.plan.specs.Limits.{between, most_cells, most_allowance, least_file, most_file, trailer_size}
use Rattle.plan.specs.Forms.{marked, form_of, record_size, widest}
use Rattle.plan.specs.Lists.{from}
use Rattle.plan.specs.Plan.{Cell}
use Rattle.plan.specs.Records.{bare, cells_of}
use Rattle.plan.specs.Columns.{table, table_of}
use Rattle.plan.specs.Questions.{none, asked, or_else, at_each}
use Rattle.plan.proofs.Laws.Questions.{both-none, asked_yes, each_none, each_same, stops, goes_on}
use Rattle.plan.specs.Steps.{cell_refusal, tree_refusal}
use Rattle.plan.proofs.Laws.Steps.{Passed, cell-passed, lower-read, sized-deep, and_left, and_right}
use Rattle.plan.specs.Trees.{Lower, Flat}
use Rattle.plan.specs.declared.Record.{Record}
use Rattle.plan.specs.declared.Refusal.{Refusal}
use Rattle.plan.specs.declared.forms.Form.{Form}
use Rattle.planfile_spec.specs.Read.{Reading}
use Rattle.planfile_spec.specs.declared.Trailer.{Trailer}
use Rattle.planfile_spec.specs.Format.{trailer_of, form, record_at, entry, records_of}
use Rattle.planfile_spec.specs.Reading.{column, columns_of}
use Rattle.planfile_spec.specs.FileSteps.{counted, record_refusal, entry_refusal, records_at, columns_refusal, blank_reading, formed_refusal, header_refusal, body_refusal, file_refusal, examined}

pub zero_of : (r a : Refusal) → r ≡ a → r.number ≡ 0 → a.number ≡ 0
zero_of r a e z = ap (λ (x : Refusal). x.number) (sym e) ∙ z

-- ---- questions 2 and 4
pub sized-read : (size : ℕ) (r : Refusal) → r ≡ asked 2 (between least_file most_file size) 0 → r.number ≡ 0 → least_file ≤ size
sized-read size r e z = leb→le least_file size (and_left (leb least_file size) _ (asked_yes 1 _ 0 (zero_of r _ e z)))

-- n records from begin on, up to the trailer
pub record Full (form : Form) (size begin n : ℕ) : Type 0 where
  pub some : 1 ≤ n
  pub few : n ≤ most_cells
  pub exact : begin + record_size form * n + trailer_size ≡ size

pub full-read : (form : Form) (size begin n : ℕ) (r : Refusal) → r ≡ asked 4 (counted form size begin n) 0 → r.number ≡ 0 → Full form size begin n
full-read form size begin n r e z =
    let h = asked_yes 3 (counted form size begin n) 0 (zero_of r _ e z) in
    let k = and_left (between 1 most_cells n) _ h in
    record {
      some = leb→le 1 n (and_left (leb 1 n) _ k);
      few = leb→le n most_cells (and_right (leb 1 n) _ k);
      exact = eqb→eq _ size (and_right (between 1 most_cells n) _ h);
    }

pub record Headed (f : List ℕ) : Type 0 where
  pub long : least_file ≤ length f
  pub full : Full (form f) (length f) (trailer_of f).begin (trailer_of f).count

pub formed_read : (f : List ℕ) → (formed_refusal f).number ≡ 0 → Headed f
unfolding formed_refusal
formed_read f e =
    let (a, r) = both-none (asked 2 (between least_file most_file (length f)) 0) _ e in
    let (b, c) = both-none (asked 3 (marked (trailer_of f).mark) 0) _ r in
    record { long = sized-read (length f) _ refl a; full = full-read (form f) (length f) _ _ _ refl c }

pub header_read : (f : List ℕ) → (header_refusal f).number ≡ 0 → Headed f
unfolding header_refusal
header_read f e = formed_read f (both-none (formed_refusal f) _ e).0

-- ---- questions 6 to 10, from columns
record_passed : (form : Form) (begin c p k w d l s : ℕ) → (record_refusal form begin c p k w d l s).number ≡ 0 → Passed (widest form) c p k w d
unfolding record_refusal
record_passed form begin c p k w d l s e = cell-passed (widest form) c p k w d (both-none (cell_refusal (widest form) c p k w d) _ e).0

module _ (form : Form) (begin n : ℕ) (ps ks ws ds ls ss : List ℕ) (r : Refusal) (e : r ≡ at_each (records_at form begin ps ks ws ds ls ss) 0 n) (z : r.number ≡ 0) where
  passed : (c : ℕ) → c < n → Passed (widest form) c (get_or ps c 0) (get_or ks c 0) (get_or ws c 0) (get_or ds c 0)
  passed c h = record_passed form begin c _ _ _ _ (get_or ls c 0) (get_or ss c 0) (each_none (records_at form begin ps ks ws ds ls ss) n (zero_of r _ e z) c h)

  pub records-lower : 1 ≤ n → n ≤ most_cells → Lower ps n
  records-lower a b = record { some = a; few = b; lower = λ c p h. lower-read c (get_or ps c 0) p (passed c h).is_lower }

  pub records-flat : Flat ds n
  records-flat = record { flat = λ c h. (sized-deep (widest form) (get_or ws c 0) (get_or ds c 0) (passed c h).is_sized).1 }

-- ---- the columns of a file
column-length : (g : ℕ → ℕ) (n : ℕ) → length (column g n) ≡ most_cells
unfolding column
column-length g zero = length-replicate {A = ℕ} most_cells 0
column-length g (suc n) = length-set (column g n) n (g n) ∙ column-length g n

pub column-at : (g : ℕ → ℕ) (n c : ℕ) → n ≤ most_cells → c < n → get_or (column g n) c 0 ≡ g c
unfolding column
column-at g zero c h l = absurd (omega arith)
column-at g (suc n) c h l = go (ℕ_discrete c n) (column-at g n c (omega arith))
  where
    go : Dec (c ≡ n) → (c < n → get_or (column g n) c 0 ≡ g c) → get_or (set (column g n) n (g n)) c 0 ≡ g c
    go (yes q) k = rw q (get_or-set_same (column g n) n (g n) 0 (omega (arith, column-length g n)))
    go (no q) k = get_or-set_other (column g n) n c (g n) 0 q ∙ k (omega arith)

table_same : (g : ℕ → Cell) (e : ℕ → Record) (k d : ℕ) → ((c : ℕ) → k ≤ c → c < k + d → g c ≡ bare (e c)) → map g (from k d) ≡ map bare (map e (from k d))
unfolding from
table_same g e k zero h = refl
table_same g e k (suc d) h = cc (h k (omega arith) (omega arith), table_same g e (suc k) d (λ c p q. h c (omega arith) (omega arith)))

module _ (f : List ℕ) (h : Headed f) where
  abbrev n : ℕ
  n = (trailer_of f).count

  abbrev plan : Reading
  plan = columns_of none (trailer_of f).allowance n (entry f)

  few : n ≤ most_cells
  few = h.full.few

  pub same-table : table_of plan.columns ≡ cells_of (records_of f)
  unfolding table cells_of records_of columns_of bare
  same-table =
      table_same _ (entry f) 0 n (λ c p q.
      let l : c < n = omega arith in
      rw (column-at (λ c. (entry f c).parent) n c few l, column-at (λ c. (entry f c).kind) n c few l, column-at (λ c. (entry f c).width) n c few l, column-at (λ c. (entry f c).depth) n c few l, column-at (λ c. (entry f c).rank) n c few l))

  pub plan-refusal : columns_refusal plan (form f) (trailer_of f).begin ≡ body_refusal f
  unfolding columns_refusal body_refusal columns_of
  plan-refusal =
      rw same-table (ap (λ (x : Refusal). or_else x (or_else (tree_refusal (cells_of (records_of f))) (asked 14 (leb (trailer_of f).allowance most_allowance) 0))) (each_same _ (entry_refusal f) n (λ c l.
      rw (column-at (λ c. (entry f c).parent) n c few l, column-at (λ c. (entry f c).kind) n c few l, column-at (λ c. (entry f c).width) n c few l, column-at (λ c. (entry f c).depth) n c few l, column-at (λ c. (entry f c).label_length) n c few l, column-at (λ c. (entry f c).label_start) n c few l))))

-- ---- the answer of 2 to 14
module _ (f : List ℕ) (r : Refusal) (e : r ≡ file_refusal f) where
  pub examined-refused : ¬ (r.number ≡ 0) → blank_reading r ≡ examined f
  unfolding examined columns_of column
  examined-refused z = rw (← e, ne_eqb r.number 0 z)

  pub examined-plan : r.number ≡ 0 → columns_of none (trailer_of f).allowance (trailer_of f).count (entry f) ≡ examined f
  unfolding examined
  examined-plan z = rw (← e, eq-eqb r.number 0 z)

-- ---- the same, as the code has it: the trailer and the plan in locals
module _ (f : List ℕ) (h : (header_refusal f).number ≡ 0) (t : Trailer) (e : t ≡ trailer_of f) where
  pub room-read : (t.count ≤ most_cells) × (t.begin + record_size (form_of t.mark) * t.count ≤ length f)
  room-read = let k = (header_read f h).full in rw e (k.few, omega (arith, k.exact))

  module _ (p : Reading) (q : p ≡ columns_of none t.allowance t.count (λ c. record_at (form_of t.mark) f (t.begin + record_size (form_of t.mark) * c))) where
    plan-is : p ≡ columns_of none (trailer_of f).allowance (trailer_of f).count (entry f)
    unfolding entry
    plan-is = rw e at q

    pub count-read : (1 ≤ p.columns.count) × (p.columns.count ≤ most_cells)
    unfolding columns_of
    count-read = let k = (header_read f h).full in rw plan-is (k.some, k.few)

    pub body_is : columns_refusal p (form_of t.mark) t.begin ≡ body_refusal f
    body_is = rw (plan-is, e) (plan-refusal f (header_read f h))

    pub plan-examined : (r : Refusal) → r ≡ file_refusal f → r.number ≡ 0 → p ≡ examined f
    plan-examined r g z = plan-is ∙ examined-plan f r g z

-- no refusal of the two parts
pub file-passed : (f : List ℕ) (a b : Refusal) → a ≡ header_refusal f → a.number ≡ 0 → b ≡ body_refusal f → b ≡ file_refusal f
unfolding file_refusal
file-passed f a b ea za eb = goes_on a (header_refusal f) (body_refusal f) b ea za eb

pub header_stops : (f : List ℕ) (a : Refusal) → a ≡ header_refusal f → ¬ (a.number ≡ 0) → a ≡ file_refusal f
unfolding file_refusal
header_stops f a e z = stops a (header_refusal f) (body_refusal f) e z
