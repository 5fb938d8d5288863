-- THE POOL OF TWO REPORTS (document 02, E14): its questions, its answer; and a folder's report, file by file. Every definition computes. Assumes nothing.
use Rattle.std.specs.Prelude.{List, [], ◌∷◌, Bool, true, ◌&&◌, cond, ℕ, ◌+◌, ◌*◌, ◌≤◌, min, max, eqb, leb, Result, Ok, Err}
use Rattle.plan.specs.Questions.{none, asked, or_else, answered}
use Rattle.plan.specs.declared.Refusal.{Refusal}
use Rattle.season.specs.declared.Report.{Report}
use Rattle.season.specs.Report.{most_plans, cells_each, width_each, area_each, Figure, quotient, remainder, report, nothing}

-- ---- the figures of both
-- the lesser of two least widths, of which that of no plan does not count: p and q are the plans
unfoldable pub narrower : (p l q m : ℕ) → ℕ
narrower p l q m = cond (eqb p 0) m (cond (eqb q 0) l (min l m))

-- "Pooling works the mean out afresh"
unfoldable pub pooled : Report → Report → Report
pooled a b =
    record {
      plans = a.plans + b.plans;
      cells = a.cells + b.cells;
      widths = a.widths + b.widths;
      areas = a.areas + b.areas;
      least = narrower a.plans a.least b.plans b.least;
      greatest = max a.greatest b.greatest;
      mean = quotient (a.widths + b.widths) (a.plans + b.plans);
      rest = remainder (a.widths + b.widths) (a.plans + b.plans);
    }

-- ---- the questions
-- no plan, "and a figure that is not 0": of those that no bound per plan judges
unfoldable pub empty : Report → Bool
empty r = eqb r.least 0 && (eqb r.greatest 0 && (eqb r.mean 0 && eqb r.rest 0))

-- question 22
unfoldable pub sound : Report → Bool
sound r =
    leb r.plans most_plans
    && (leb r.cells (cells_each * r.plans)
    && (leb r.widths (width_each * r.plans)
    && (leb r.areas (area_each * r.plans)
    && cond (eqb r.plans 0) (empty r) true)))

-- the pool's own sequence: "22, tested before that 4", of either report
pub data Question : Type 0 where
  first_sound second_sound few_together : Question

unfoldable pub sequence : List Question
sequence = first_sound ∷ second_sound ∷ few_together ∷ []

unfoldable pub number : Question → ℕ
number first_sound = 22
number second_sound = 22
number few_together = 4

module _ (a b : Report) where
  unfoldable pub holds : Question → Bool
  holds first_sound = sound a
  holds second_sound = sound b
  holds few_together = leb (a.plans + b.plans) most_plans

  -- the first "no"; no cell is concerned
  unfoldable pub first_no : List Question → Refusal
  first_no [] = none
  first_no (q ∷ qs) = or_else (asked (number q) (holds q) 0) (first_no qs)

  unfoldable pub pool_refusal : Refusal
  pool_refusal = first_no sequence

  -- THE ANSWER
  unfoldable pub pool : Result Report Refusal
  pool = answered pool_refusal (pooled a b)

-- an answer that refuses; no cell is concerned
abbrev pub refuses : (number : ℕ) → Result Report Refusal
refuses k = Err (record { number = k; cell = 0 })

-- ---- a folder, file by file: "A file that Read refuses gets that refusal and adds nothing"
unfoldable pub adds : Result Report Refusal → Result Report Refusal → Result Report Refusal
adds (Ok a) (Ok b) = pool a b
adds (Ok a) (Err r) = Ok a
adds (Err r) answer = Err r

-- of the answers for the files, one after another
unfoldable pub gathered : Result Report Refusal → List (Result Report Refusal) → Result Report Refusal
gathered total [] = total
gathered total (r ∷ rs) = gathered (adds total r) rs

abbrev pub folder : List (Result Report Refusal) → Result Report Refusal
folder = gathered (Ok nothing)

-- what is answered for some files, and the plans among them
pub data Files : List (Result Report Refusal) → List Figure → Type 0 where
  no_file : Files [] []
  plan : {x : Figure} {rs : List (Result Report Refusal)} {xs : List Figure} → Files rs xs → Files (Ok (report (x ∷ [])) ∷ rs) (x ∷ xs)
  refused : {r : Refusal} {rs : List (Result Report Refusal)} {xs : List Figure} → Files rs xs → Files (Err r ∷ rs) xs

-- figures of at most 1,024 plans
pub record Small (r : Report) : Type 0 where
  pub few : r.plans ≤ 1024
  pub cells : r.cells ≤ 262144
  pub widths : r.widths ≤ 268434432
  pub areas : r.areas ≤ 68719214592
