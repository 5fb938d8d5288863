-- From the columns of two lent tables to their records: what Join writes and answers. Nothing that a reader must believe stands here. Assumes nothing.
use Rattle.std.specs.Prelude.{◌≡◌, List, Result, Ok, Err, IsErrAnd, map, ◌++◌, ℕ, ◌+◌, ◌≤◌, ◌<◌}
use Rattle.std.proofs.Math.Path.{refl, sym, ap}
use Rattle.std.proofs.Common.{◌∙◌, arith, zero-add, ext_get_or}
use Rattle.std.proofs.Math.Decide.{ℕ_discrete}
use Rattle.std.proofs.Math.ListN.{length, drop}
use Rattle.plan.specs.Limits.{most_cells}
use Rattle.plan.specs.Lists.{from}
use Rattle.plan.specs.Columns.{table_of}
use Rattle.plan.proofs.Laws.Columns.{length_from, get_or_from}
use Rattle.plan.proofs.Laws.Answered.{answered_none, answered_some}
use Rattle.plan.specs.Records.{cells_of}
use Rattle.plan.specs.declared.Record.{Record}
use Rattle.plan.specs.declared.Lettered.{Lettered}
use Rattle.plan.specs.declared.Refusal.{Refusal}
use Rattle.records.specs.Apart.{no_record, lent_at, columns, lettering, lent_columns, lent_lettered, records_in}
use Rattle.records.proofs.Laws.Apart.{of-records, apart_records}
use Rattle.records.specs.Together.{record_in, as_reading, filled}
use Rattle.records.proofs.Laws.Together.{filled-all}
use Rattle.graft.specs.Joined.{joined_records}
use Rattle.graft.specs.Sequence.{join_refusal}
use Rattle.graft.proofs.Laws.Crowded.{first-crowded, second-crowded}
use Rattle.grafting.specs.Grafted.{grafted, accepted, graft_of}
use Rattle.grafting.proofs.Laws.Joins.{records-length}
use Rattle.grafting.proofs.Laws.Made.{lettered, stop, graft_accepted, graft_refused, count-joined, made, made-count, made-records, row_in}
use Rattle.grafting.specs.Joins.{join_answered, table_after, Joins}
use Rattle.join_entry.specs.Hung.{count_of, table_after_it, Hangs}

-- ---- for the code: what is written fits
module _ (room : ℕ) (a b : Lettered) (c : ℕ) where
  pub hang-fits : (l : Lettered) → Ok l ≡ graft_of room a b c → (l.columns.count ≤ room) × (l.columns.count ≤ most_cells)
  hang-fits l e = go (ℕ_discrete (stop room a b c).number 0)
    where
      go : Dec ((stop room a b c).number ≡ 0) → (l.columns.count ≤ room) × (l.columns.count ≤ most_cells)
      go (yes z) =
          let q : l ≡ accepted a b (grafted a.columns b.columns c) = cc (e ∙ graft_accepted room a b c z) in
          rw q (unfold accepted grafted in let (x, y, s) = count-joined room a b c z in (x, y))
      go (no z) = cc (e ∙ graft_refused room a b c z)

module _ (a b : Lettered) (c : ℕ) (o o' : List Record) where
  pub hang-is : (l : Lettered) → Ok l ≡ graft_of (length o) a b c → o' ≡ filled (as_reading l) l.columns.count o → Hangs a b c o o' (Ok l.columns.count)
  hang-is l e h = record { answers = ap count_of e; table = h ∙ ap (λ (x : Result Lettered Refusal). table_after_it x o) e }

  pub hang-refused : (r : Refusal) (y : Result ℕ Refusal) → Err r ≡ graft_of (length o) a b c → IsErrAnd y (λ d. d ≡ r) → o' ≡ o → Hangs a b c o o' y
  hang-refused r (Ok n) e p h = absurd p
  hang-refused r (Err d) e p h = record { answers = ap Err p ∙ ap count_of e; table = h ∙ ap (λ (x : Result Lettered Refusal). table_after_it x o) e }

count-is : (t : List Record) → (lent_lettered t).columns.count ≡ length t
unfolding lettering columns
count-is t = refl

all_of : (xs : List Record) → map (lent_at xs) (from 0 (length xs)) ≡ xs
all_of xs = ext_get_or no_record _ _ (length_from (lent_at xs) 0 (length xs)) (λ i h. rw zero-add at (get_or_from (lent_at xs) no_record 0 (length xs) i (let e = length_from (lent_at xs) 0 (length xs) in omega arith)))

-- ---- two lent tables
module _ (t u : List Record) (c : ℕ) (o : List Record) where
  abbrev A : Lettered
  A = lent_lettered t

  abbrev B : Lettered
  B = lent_lettered u

  abbrev why : Refusal
  why = join_refusal (length o) (cells_of t) (cells_of u) c

  counts : (A.columns.count ≡ length t) × (B.columns.count ≡ length u)
  counts = (count-is t, count-is u)

  same-refusal : stop (length o) A B c ≡ why
  unfolding lettering
  same-refusal =
      let one : stop (length o) A B c ≡ join_refusal (length o) (cells_of t) (table_of (lent_columns u)) c
      = of-records (λ v. stop (length o) A B c ≡ join_refusal (length o) v (table_of (lent_columns u)) c) t (λ v w p q e. e ∙ first-crowded (length o) c v _ p ∙ sym (first-crowded (length o) c w _ q)) refl in
      of-records (λ w. stop (length o) A B c ≡ join_refusal (length o) (cells_of t) w c) u (λ v w p q e. e ∙ second-crowded (length o) c _ v p ∙ sym (second-crowded (length o) c _ w q)) one

  -- no question refuses
  module _ (z : (stop (length o) A B c).number ≡ 0) where
    sizes : (length t + length u ≤ length o) × (length t + length u ≤ most_cells) × (1 ≤ length u)
    sizes = let (x, y, s) = count-joined (length o) A B c z in let (p, q) = counts in (omega arith, omega arith, omega arith)

    few_all : A.columns.count + B.columns.count ≤ most_cells
    few_all = let (p, q) = counts in omega (arith, sizes)

    first_few : length t ≤ most_cells
    first_few = omega (arith, sizes)

    second_few : length u ≤ most_cells
    second_few = omega (arith, sizes)

    second-some : 1 ≤ B.columns.count
    second-some = let (p, q) = counts in omega (arith, sizes)

    record_is : (i : ℕ) → i < length t + length u → record_in (made A B c few_all) i ≡ lent_at (joined_records t u c) i
    record_is i h =
        let (p, q) = counts in
        let same : joined_records (records_in A) (records_in B) c ≡ joined_records t u c = rw (apart_records t first_few, apart_records u second_few) in
        sym (row_in (lettered (made A B c few_all)) i (omega (arith, made-count A B c few_all second-some)))
        ∙ ap (λ (x : List Record). lent_at x i) (made-records A B c few_all second-some ∙ same)

    all-written : filled (made A B c few_all) (length t + length u) o ≡ joined_records t u c ++ drop (length t + length u) o
    all-written =
        filled-all (made A B c few_all) (lent_at (joined_records t u c)) (length t + length u) o sizes.0 record_is
        ∙ ap (λ (x : List Record). x ++ drop (length t + length u) o) (rw (records-length t u c) at (all_of (joined_records t u c)))

  -- THE law: what holds of the columns holds of the records
  lent : (o' : List Record) (r : Result ℕ Refusal) → Hangs A B c o o' r → Joins t u c o o' r
  unfolding join_answered table_after
  lent o' r h = go (ℕ_discrete (stop (length o) A B c).number 0)
    where
      go : Dec ((stop (length o) A B c).number ≡ 0) → Joins t u c o o' r
      go (yes z) =
          let e = graft_accepted (length o) A B c z in
          let y : why.number ≡ 0 = ap (λ (x : Refusal). x.number) (sym same-refusal) ∙ z in
          let p : r ≡ Ok (length t + length u) = h.answers ∙ ap count_of e ∙ plan-answer in
          let q : o' ≡ joined_records t u c ++ drop (length t + length u) o = h.table ∙ ap (λ (x : Result Lettered Refusal). table_after_it x o) e ∙ plan-table ∙ all-written z in
          record { answers = p ∙ sym (answered_none why _ y); table = rw p q }
        where
          plan-answer : ◌≡◌ {A = Result ℕ Refusal} (Ok (accepted A B (grafted A.columns B.columns c)).columns.count) (Ok (length t + length u))
          plan-answer = unfold accepted grafted lettering columns in refl

          plan-table : filled (made A B c (few_all z)) (made A B c (few_all z)).columns.count o ≡ filled (made A B c (few_all z)) (length t + length u) o
          plan-table = ap (λ (k : ℕ). filled (made A B c (few_all z)) k o) (unfold accepted grafted lettering columns in refl)
      go (no z) =
          let e = graft_refused (length o) A B c z in
          let y : ¬ (why.number ≡ 0) = λ k. z (ap (λ (x : Refusal). x.number) same-refusal ∙ k) in
          let p : r ≡ Err why = h.answers ∙ ap count_of e ∙ ap Err same-refusal in
          let q : o' ≡ o = h.table ∙ ap (λ (x : Result Lettered Refusal). table_after_it x o) e in
          record { answers = p ∙ sym (answered_some why _ y); table = rw p q }

-- for the code
pub join-lent : (t u : List Record) (a b : Lettered) → a ≡ lent_lettered t → b ≡ lent_lettered u → (c : ℕ) (o o' : List Record) (r : Result ℕ Refusal) → Hangs a b c o o' r → Joins t u c o o' r
join-lent t u a b p q c o o' r h = lent t u c o o' r (rw (p, q) at h)
