-- A table filled record by record, and what it is then. Assumes nothing.
use Rattle.std.specs.Prelude.{◌≡◌, refl, List, ◌∷◌, ◌++◌, map, ℕ, zero, suc, ◌+◌, ◌≤◌, ◌<◌, length, set, drop}
use Rattle.std.proofs.Common.{ap, ◌∙◌, arith, zero-add, add-one, length-set, drop-cons}
use Rattle.std.proofs.lemmas.List.{set_at}
use Rattle.plan.specs.Lists.{from}
use Rattle.plan.proofs.Laws.Columns.{length_from}
use Rattle.plan.specs.declared.Record.{Record}
use Rattle.planfile_spec.specs.Read.{Reading, plan_of}
use Rattle.records.specs.Apart.{no_record}
use Rattle.records.specs.Together.{record_in, as_reading, filled}

-- ---- record by record
pub filled-length : (r : Reading) (n : ℕ) (t : List Record) → length (filled r n t) ≡ length t
unfolding filled
filled-length r zero t = refl
filled-length r (suc n) t = length-set (filled r n t) _ _ ∙ filled-length r n t

pub filled_none : (r : Reading) (t : List Record) → t ≡ filled r 0 t
unfolding filled
filled_none r t = refl

pub filled_more : (r : Reading) (t : List Record) (c : ℕ) → set (filled r c t) c (record_in r c) ≡ filled r (c + 1) t
unfolding filled
filled_more r t c = rw add-one

-- a reading's refusal and allowance have no part in it
pub filled_cells : (r : Reading) (n : ℕ) (t : List Record) → filled (as_reading (plan_of r).cells) n t ≡ filled r n t
unfolding filled
filled_cells r zero t = refl
filled_cells r (suc n) t = rw (filled_cells r n t)

-- ---- all of them: n records, and the rest as it was
from_more : (e : ℕ → Record) (k n : ℕ) (rest : List Record) → map e (from k n) ++ e (k + n) ∷ rest ≡ map e (from k (suc n)) ++ rest
unfolding from
from_more e k zero rest = let q : k + 0 ≡ k = omega arith in rw q
from_more e k (suc n) rest = let q : k + suc n ≡ suc k + n = omega arith in rw q (ap (λ l. e k ∷ l) (from_more e (suc k) n rest))

pub filled-all : (r : Reading) (e : ℕ → Record) (n : ℕ) (t : List Record) → n ≤ length t → ((c : ℕ) → c < n → record_in r c ≡ e c) → filled r n t ≡ map e (from 0 n) ++ drop n t
unfolding filled from
filled-all r e zero t h same = refl
filled-all r e (suc n) t h same =
    let p : filled r n t ≡ map e (from 0 n) ++ drop n t = filled-all r e n t (omega arith) (λ c l. same c (omega arith)) in
    let d = drop-cons t n no_record (omega arith) in
    rw (p, d, same n (omega arith)) (set_at (map e (from 0 n)) _ (drop (suc n) t) (e n) n (length_from e 0 n) ∙ rw zero-add at (from_more e 0 n (drop (suc n) t)))
