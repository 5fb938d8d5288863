-- The records that stand in joined columns: those of the joined records, label fields and all. Nothing that a reader must believe stands here. Assumes nothing.
use Rattle.std.specs.Prelude.{◌≡◌, List, Ok, Err, ℕ, ◌+◌, ◌-◌, ◌≤◌, ◌<◌, length}
use Rattle.std.proofs.Math.Path.{refl, sym}
use Rattle.std.proofs.Common.{ap, ◌∙◌, zero-add, ext_get_or}
use native.Mathlib.Omega.{arith}
use Rattle.std.proofs.Math.Decide.{ℕ_discrete, dec_lt}
use Rattle.std.proofs.Math.ListN.{get_or}
use Rattle.plan.specs.Limits.{most_cells}
use Rattle.plan.specs.Columns.{table_of}
use Rattle.plan.proofs.Laws.Tables.{length-is}
use Rattle.plan.proofs.Laws.Columns.{get_or_from}
use Rattle.plan.proofs.Laws.Answered.{answered_none, answered_some}
use Rattle.plan.specs.declared.Record.{Record}
use Rattle.plan.specs.declared.Lettered.{Lettered}
use Rattle.plan.specs.declared.Refusal.{Refusal}
use Rattle.planfile_spec.specs.Read.{Reading, reading}
use Rattle.planfile_spec.specs.Reading.{column}
use Rattle.planfile_spec.proofs.Laws.Examined.{column-at}
use Rattle.records.specs.Apart.{no_record, lent_at, row_at, records_in}
use Rattle.records.proofs.Laws.Apart as apart
use Rattle.records.specs.Together.{record_in}
use Rattle.graft.specs.Joined.{raised, record_under, joined_records}
use Rattle.graft.specs.Sequence.{join_refusal}
use Rattle.graft.proofs.Laws.Hung.{behind_first, behind_root, behind_later}
use Rattle.graft.proofs.Laws.Joined.{length-joined}
use Rattle.graft.proofs.Laws.Sequence as asks
use Rattle.grafting.specs.Grafted.{picked, picked_parent, grafted, accepted, graft_of}
use Rattle.grafting.proofs.Laws.Grafted.{picked_first, picked-second, parent-first, parent_root, parent-second}
use Rattle.grafting.proofs.Laws.Joins.{records-length}

abbrev father : Record → ℕ
father r = r.parent

-- the records of a reading, with their labels
abbrev pub lettered : Reading → Lettered
lettered p = record { columns = p.columns; label_length = p.label_length; label_start = p.label_start }

record_same : (x y : Record) → x.parent ≡ y.parent → x.kind ≡ y.kind → x.width ≡ y.width → x.depth ≡ y.depth → x.rank ≡ y.rank
    → x.label_length ≡ y.label_length → x.label_start ≡ y.label_start → x ≡ y
record_same x y p k w d q l s = λ i. record { parent = p i; kind = k i; width = w i; depth = d i; rank = q i; label_length = l i; label_start = s i }

-- ---- what was taken apart, and its refusal
module _ (room : ℕ) (a b : Lettered) (c : ℕ) where
  abbrev pub stop : Refusal
  stop = join_refusal room (table_of a.columns) (table_of b.columns) c

  pub graft_accepted : stop.number ≡ 0 → graft_of room a b c ≡ Ok (accepted a b (grafted a.columns b.columns c))
  unfolding graft_of
  graft_accepted z = answered_none stop _ z

  pub graft_refused : ¬ (stop.number ≡ 0) → graft_of room a b c ≡ Err stop
  unfolding graft_of
  graft_refused z = answered_some stop _ z

  pub count-joined : stop.number ≡ 0 → (a.columns.count + b.columns.count ≤ room) × (a.columns.count + b.columns.count ≤ most_cells) × (1 ≤ b.columns.count)
  count-joined z =
      let f = asks.accepted room (table_of a.columns) (table_of b.columns) c z in
      let n = length-joined (table_of a.columns) (table_of b.columns) c in
      let p = length-is a.columns in
      let q = length-is b.columns in
      (omega (arith, f.few, f.room_enough), omega (arith, f.few), omega (arith, f.some_second))

-- ---- the records of joined columns
module _ (a b : Lettered) (c : ℕ) (few : a.columns.count + b.columns.count ≤ most_cells) where
  abbrev n : ℕ
  n = a.columns.count

  abbrev k : ℕ
  k = a.columns.count + b.columns.count

  abbrev pub made : Reading
  made = reading (record { allowance = 0; cells = accepted a b (grafted a.columns b.columns c) })

  at_first : (xs ys : List ℕ) (i : ℕ) → i < n → i < k → get_or (column (picked n xs ys) k) i 0 ≡ get_or xs i 0
  at_first xs ys i h l = column-at (picked n xs ys) k i few l ∙ sym (picked_first n xs ys i h)

  at_second : (xs ys : List ℕ) (j : ℕ) → n + j < k → get_or (column (picked n xs ys) k) (n + j) 0 ≡ get_or ys j 0
  at_second xs ys j l =
      let e : n + j - n ≡ j = omega arith in
      column-at (picked n xs ys) k (n + j) few l ∙ sym (rw e at (picked-second n xs ys (n + j) (omega arith)))

  made-first : (i : ℕ) → i < n → record_in made i ≡ row_at a i
  unfolding accepted grafted
  made-first i h =
      let l : i < k = omega arith in
      record_same _ _ (column-at (picked_parent n c a.columns.parent b.columns.parent) k i few l ∙ sym (parent-first n a.columns.parent b.columns.parent i c h))
      (at_first _ _ i h l) (at_first _ _ i h l) (at_first _ _ i h l) (at_first _ _ i h l) (at_first _ _ i h l) (at_first _ _ i h l)

  made-second : (j p : ℕ) → n + j < k → picked_parent n c a.columns.parent b.columns.parent (n + j) ≡ p → record_in made (n + j) ≡ record_under p (row_at b j)
  unfolding accepted grafted record_under
  made-second j p l e =
      record_same _ _ (column-at (picked_parent n c a.columns.parent b.columns.parent) k (n + j) few l ∙ e)
      (at_second _ _ j l) (at_second _ _ j l) (at_second _ _ j l) (at_second _ _ j l) (at_second _ _ j l) (at_second _ _ j l)

  made_root : 0 < b.columns.count → record_in made (n + 0) ≡ record_under c (row_at b 0)
  made_root l = made-second 0 c (omega arith) (sym (parent_root n a.columns.parent b.columns.parent (n + 0) c (omega arith) (omega arith)))

  made-later : (j : ℕ) → 1 ≤ j → j < b.columns.count → record_in made (n + j) ≡ raised father record_under n (row_at b j)
  unfolding raised
  made-later j p l =
      let e : n + j - n ≡ j = omega arith in
      made-second j (n + get_or b.columns.parent j 0) (omega arith) (sym (rw e at (parent-second n a.columns.parent b.columns.parent (n + j) c (omega arith) (omega arith))))

-- a record in columns
pub row_in : (l : Lettered) (i : ℕ) → i < l.columns.count → lent_at (records_in l) i ≡ row_at l i
unfolding records_in
row_in l i h = rw zero-add at (get_or_from (row_at l) no_record 0 l.columns.count i h)

-- ---- all of them
module _ (a b : Lettered) (c : ℕ) (few : a.columns.count + b.columns.count ≤ most_cells) (some : 1 ≤ b.columns.count) where
  abbrev A : List Record
  A = records_in a

  abbrev B : List Record
  B = records_in b

  abbrev L : Lettered
  L = lettered (made a b c few)

  pub made-count : L.columns.count ≡ a.columns.count + b.columns.count
  unfolding accepted grafted
  made-count = refl

  first-is : (i : ℕ) → i < a.columns.count → row_at L i ≡ lent_at (joined_records A B c) i
  unfolding joined_records
  first-is i h = made-first a b c few i h ∙ sym (row_in a i h) ∙ sym (behind_first father record_under A B c no_record i (omega (arith, apart.records-length a)))

  -- the second's, by the first's count
  second_is : (j : ℕ) → j < b.columns.count → row_at L (length A + j) ≡ lent_at (joined_records A B c) (length A + j)
  second_is j h = go (ℕ_discrete j 0)
    where
      there : row_at L (length A + j) ≡ row_at L (a.columns.count + j)
      there = ap (λ (m : ℕ). row_at L (m + j)) (apart.records-length a)

      root : j ≡ 0 → row_at L (a.columns.count + j) ≡ lent_at (joined_records A B c) (length A + j)
      root e = rw e (made_root a b c few some ∙ ap (record_under c) (sym (row_in b 0 some)) ∙ sym (unfold joined_records in behind_root father record_under A B c no_record (omega (arith, apart.records-length b))))

      later : 1 ≤ j → row_at L (a.columns.count + j) ≡ lent_at (joined_records A B c) (length A + j)
      later p =
          made-later a b c few j p h ∙ ap (λ (m : ℕ). raised father record_under m (row_at b j)) (sym (apart.records-length a)) ∙ ap (raised father record_under (length A)) (sym (row_in b j h))
          ∙ sym (unfold joined_records in behind_later father record_under A B c no_record j p (omega (arith, apart.records-length b)))

      go : Dec (j ≡ 0) → row_at L (length A + j) ≡ lent_at (joined_records A B c) (length A + j)
      go (yes e) = there ∙ root e
      go (no e) = there ∙ later (omega arith)

  pub made-records : records_in (lettered (made a b c few)) ≡ joined_records (records_in a) (records_in b) c
  made-records =
      ext_get_or no_record _ _ (apart.records-length L ∙ made-count ∙ sym (records-length A B c ∙ rw (apart.records-length a, apart.records-length b)))
      (λ i h. let l : i < L.columns.count = omega (arith, apart.records-length L) in row_in L i l ∙ go i (omega (arith, made-count)) (dec_lt i a.columns.count))
    where
      go : (i : ℕ) → i < a.columns.count + b.columns.count → Dec (i < a.columns.count) → row_at L i ≡ lent_at (joined_records A B c) i
      go i h (yes l) = first-is i l
      go i h (no l) = let e : length A + (i - length A) ≡ i = omega (arith, apart.records-length a) in rw e at (second_is (i - length A) (omega (arith, apart.records-length a)))
