-- A lent table of more than 256 records is refused by its length alone, whatever the call. Assumes nothing.
use Rattle.std.specs.Prelude.{◌≡◌, Bool, true, false, cond, ℕ, suc, ◌<◌, length}
use Rattle.std.proofs.Common.{◌∙◌, arith, le-leb}
use Rattle.std.proofs.lemmas.Bool.{lt-leb}
use Rattle.plan.specs.declared.Refusal.{Refusal}
use Rattle.plan.specs.Limits.{most_cells}
use Rattle.plan.specs.Lists.{mem}
use Rattle.plan.specs.Questions.{File, Call, Given, number, sequence, puts, all_roomy, in_file, holds, none, asked, or_else, ask, refusal}
use Rattle.plan.proofs.Laws.Questions.{first_some, both-none}
use Rattle.plan.proofs.Laws.Kept.{asked_true, none_first, refusal-kept, kept-once}

-- question 4
abbrev pub crowded : Refusal
crowded = record { number = 4; cell = 0 }

-- a question that is answered yes, put or not
passed : (b : Bool) (n : ℕ) (r : Refusal) → or_else (cond b (asked (suc n) true 0) none) r ≡ r
passed true n r = rw (asked_true n 0) (none_first r)
passed false n r = none_first r

stops : (r : Refusal) → or_else (asked 4 false 0) r ≡ crowded
unfolding asked
stops r = first_some crowded r (omega arith)

-- a call that puts 1 and 4, on a table that stands in no file
pub refusal-crowded : (call : Call) (g : Given) → ((test : File → Bool) → in_file g.source test ≡ true) → mem 1 (puts call) ≡ true → mem 4 (puts call) ≡ true → most_cells < length g.table
    → refusal call g ≡ or_else (asked 1 (all_roomy g.buffers) 0) crowded
unfolding sequence ask holds number
refusal-crowded call g u p1 p4 h =
    refusal-kept call g
    ∙ rw (kept-once, kept-once, kept-once, kept-once) (rw (p1, p4, u, u, u, le-leb 1 (length g.table) (omega arith), lt-leb (length g.table) most_cells h)
    (simp (passed (mem 2 (puts call)) 1, passed (mem 3 (puts call)) 2, stops)))

-- which refuses
pub crowded_refuses : (b : Bool) → ¬ ((or_else (asked 1 b 0) crowded).number ≡ 0)
crowded_refuses b z = let h : crowded.number ≡ 0 = (both-none (asked 1 b 0) crowded z).1 in absurd (omega arith)
