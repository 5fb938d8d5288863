-- From the columns of two readings to the joined file: for the code. Nothing that a reader must believe stands here. Assumes nothing.
use Rattle.std.specs.Prelude.{◌≡◌, List, Result, Ok, Err, IsErrAnd, Bool, true, false, ⊤, leb, ◌∷◌, ◌++◌, map, length, take, drop, replicate}
use Rattle.std.proofs.Math.Path.{refl}
use Rattle.std.proofs.Common.{sym, ap, ◌∙◌, length-append, take_at}
use Prim.Native.Nat.{ℕ, zero, suc, ◌+◌, ◌≤◌, ◌<◌}
use native.Mathlib.Omega.{arith}
use Rattle.std.proofs.Math.Decide.{ℕ_discrete}
use Rattle.std.proofs.Math.Dec.{leb→le}
use borrow.Author.Tests.{eq-eqb, ne_eqb}
use Rattle.std.proofs.Math.ListN.{get_or}
use Rattle.std.proofs.lemmas.List.{length-replicate}
use Rattle.std.proofs.lemmas.List.Edits.{sets-eq}
use Rattle.whole.proofs.Laws.Says.{is_true, says_le}
use Rattle.plan.specs.Limits.{most_cells, most_file}
use Rattle.plan.specs.Lists.{from}
use Rattle.plan.specs.Questions.{asked, passed}
use Rattle.plan.proofs.Laws.Questions.{asked_yes}
use Rattle.plan.proofs.Laws.Answered.{refused_by, passes, answered_none}
use Rattle.plan.specs.declared.Record.{Record}
use Rattle.plan.specs.declared.Lettered.{Lettered}
use Rattle.plan.specs.declared.Refusal.{Refusal}
use Rattle.planfile_spec.specs.declared.PlanFile.{PlanFile}
use Rattle.planfile_spec.specs.Read.{Reading, reading, answer_of}
use Rattle.planfile_spec.proofs.Laws.Answer.{read_plan, read_refused}
use Rattle.planfile_spec.specs.Format.{trailer_of, records_of}
use Rattle.planfile_spec.specs.Reading.{column, reading_of}
use Rattle.planfile_spec.specs.FileSteps.{file_refusal}
use Rattle.planfile_spec.proofs.Laws.File.{records-length}
use Rattle.planfile_spec.proofs.Laws.Examined.{column-at}
use Rattle.records.specs.Apart.{lent_at, row_at, records_in}
use Rattle.records.proofs.Laws.Apart as apart
use Rattle.content.specs.Content.{letters_of}
use Rattle.content.specs.Clean.{copy, copy_refusal}
use Rattle.copying.specs.Copied.{copied_of, output_after, Copies}
use Rattle.copying.proofs.Laws.Cleaned.{clean-records, clean-table, clean_allowance}
use Rattle.graft.specs.Joined.{joined_records}
use Rattle.grafting.specs.Grafted.{grafted, accepted, graft_of}
use Rattle.grafting.proofs.Laws.Made.{stop, graft_accepted, graft_refused, count-joined, made-records, row_in}
use Rattle.listing.specs.Put.{Put}
use Rattle.listing.proofs.Laws.Put.{then}
use Rattle.join_file_spec.specs.Joined.{too_short, joined_file, tables_refusal, joined_of, joined_after, size, JoinsFiles}
use Rattle.join_file_spec.specs.declared.JoinError.{JoinError}
use Rattle.join_file_spec.specs.declared.JoinError.TheVariants.{FirstRefused, SecondRefused, Refused}
use Rattle.join_file_spec.proofs.Laws.Contents.{moved}
use Rattle.join_file_spec.proofs.Laws.Read.{read-passes, headed, file_short, begin-inside, letters-long, record_inside}
use Rattle.join_file_spec.proofs.Laws.Promised.{file-is, file_copied, file_small}
use Rattle.join_file.specs.Steps.{Ended, Read, Shiftable, lettered, shifted, told, Writes}

-- ---- the columns with each label so many bytes on
pub shift_is : (by : ℕ) (p : Reading) (ss : List ℕ) → ss ≡ column (λ i. by + get_or p.label_start i 0) p.columns.count
    → ◌≡◌ {A = Lettered} (record { columns = p.columns; label_length = p.label_length; label_start = ss }) (shifted by p)
shift_is by p ss e = rw e

-- ---- the writer's answer
pub write_done : (l : Lettered) (s t letters : List ℕ) (al : ℕ) {out out' : List ℕ} {n : ℕ} → letters ≡ s ++ t → Copies (records_in l) letters al out out' (Ok n) → Writes l (s ++ t) al out out' (Ok n)
unfolding told
write_done l s t letters al {n = n} q k = record { copied = Ok n; copies = rw q at k; answers = refl }

pub write-refused : (l : Lettered) (s t letters : List ℕ) (al : ℕ) {out out' : List ℕ} (e : Refusal) (y : Result ℕ JoinError) → letters ≡ s ++ t → Copies (records_in l) letters al out out' (Err e) → IsErrAnd y (λ d. d ≡ Refused e) → Writes l (s ++ t) al out out' y
unfolding told
write-refused l s t letters al e (Ok n) q k p = absurd p
write-refused l s t letters al e (Err d) q k p = record { copied = Err e; copies = rw q at k; answers = ap Err p }

writer_writes : (rs : List Record) (letters : List ℕ) (al : ℕ) (out out' : List ℕ) (d : Result ℕ Refusal) → Copies rs letters al out out' d → (copy_refusal rs letters al (length out)).number ≡ 0
    → (d ≡ Ok (length (copy rs letters al))) × (out' ≡ copy rs letters al ++ drop (length (copy rs letters al)) out)
unfolding copied_of output_after
writer_writes rs letters al out out' d k z =
    let e : d ≡ Ok (length (copy rs letters al)) = k.answers ∙ answered_none (copy_refusal rs letters al (length out)) _ z in
    (e, k.output ∙ rw e refl)

-- ---- the label bytes of both, put one behind the other
pub both-letters : (n : ℕ) {s t a b : List ℕ} {i j : ℕ} → Put (replicate n 0) 0 s a i → Put a i t b j → length s + length t ≤ n → (j ≤ n) × (take j b ≡ s ++ t)
both-letters n {s} {t} {b = b} {j = j} p q h =
    let u = then p q in
    let l = length-append s t in
    let e : 0 + length (s ++ t) ≡ length (s ++ t) = omega arith in
    let k : j ≡ length (s ++ t) = u.place ∙ e in
    let r : b ≡ (s ++ t) ++ drop (0 + length (s ++ t)) (replicate n 0) = u.bytes ∙ sets-eq (s ++ t) (replicate n 0) 0 (rw (length-replicate {A = ℕ} n 0) (omega arith)) in
    (omega arith, rw r (take_at (s ++ t) _ j (sym k)))

-- ---- a file that Read accepts
module _ (p : Reading) (f : List ℕ) (h : Read p f) where
  pub zero_read : (reading_of f most_cells).refusal.number ≡ 0
  zero_read = ap (λ (x : Reading). x.refusal.number) (sym h.is) ∙ h.passes

  file_passes : (file_refusal f).number ≡ 0
  file_passes = read-passes f zero_read

  pub read-ended : Ended f
  read-ended = record { long = omega (arith, (headed f file_passes).long); inside = begin-inside f file_passes }

  pub letters_few : length (letters_of f) ≤ most_file
  letters_few = omega (arith, letters-long f file_passes, begin-inside f file_passes, file_short f file_passes)

  records_are : records_in (lettered p) ≡ records_of f
  records_are = clean-records f p h.is h.passes

  count-is : p.columns.count ≡ (trailer_of f).count
  count-is = sym (apart.records-length (lettered p)) ∙ ap length records_are ∙ records-length f

  few : p.columns.count ≤ most_cells
  few = omega (arith, count-is, (headed f file_passes).full.few)

  start_low : (i : ℕ) → i < p.columns.count → get_or p.label_start i 0 ≤ most_file
  start_low i l =
      let e : get_or p.label_start i 0 ≡ (lent_at (records_of f) i).label_start = ap (λ (r : Record). r.label_start) (sym (row_in (lettered p) i l)) ∙ ap (λ (x : List Record). (lent_at x i).label_start) records_are in
      omega (arith, e, record_inside f file_passes i (omega (arith, count-is)), letters_few)

  pub read_shiftable : (by : ℕ) → by ≤ most_file → Shiftable p by
  read_shiftable by l = record { few = few; low = l; each_low = start_low }

  -- with each label so many bytes on
  module _ (by : ℕ) where
    rows_are : (k d : ℕ) → k + d ≤ p.columns.count → map (row_at (shifted by p)) (from k d) ≡ map (moved by) (map (row_at (lettered p)) (from k d))
    unfolding from moved
    rows_are k zero l = refl
    rows_are k (suc d) l =
        λ i. record {
          parent = get_or p.columns.parent k 0;
          kind = get_or p.columns.kind k 0;
          width = get_or p.columns.width k 0;
          depth = get_or p.columns.depth k 0;
          rank = get_or p.columns.rank k 0;
          label_length = get_or p.label_length k 0;
          label_start = column-at (λ c. by + get_or p.label_start c 0) p.columns.count k few (omega arith) i;
        } ∷ rows_are (suc k) d (omega arith) i

    shifted-records : records_in (shifted by p) ≡ map (moved by) (records_of f)
    shifted-records = inner ∙ ap (map (moved by)) records_are
      where
        inner : records_in (shifted by p) ≡ map (moved by) (records_in (lettered p))
        inner = unfold records_in in rows_are 0 p.columns.count (omega arith)

-- ---- a plan that Read gave
pub reads : (f : List ℕ) (p : PlanFile) → Ok p ≡ answer_of (reading_of f most_cells) → Read (reading p) f
reads f p e = record { is = read_plan f most_cells p e; passes = refl }

-- ---- the answers
err_is : (y : Result ℕ JoinError) (e : JoinError) → IsErrAnd y (λ d. d ≡ e) → y ≡ Err e
err_is (Ok n) e p = absurd p
err_is (Err d) e p = ap Err p

asked-no : (z : Bool) (e : Refusal) → Err e ≡ passed (asked 1 z 0) → (z ≡ false) × (e ≡ too_short)
unfolding asked
asked-no true e h = absurd ((refused_by _ tt e h).1 refl)
asked-no false e h = (refl, (refused_by _ tt e h).0)

pub room_of : (out : List ℕ) (u : ⊤) → Ok u ≡ passed (asked 1 (leb most_file (length out)) 0) → most_file ≤ length out
room_of out u h = leb→le most_file (length out) (asked_yes 0 _ 0 (passes _ u h))

module _ (f : List ℕ) (c : ℕ) (g out : List ℕ) where
  pub short_output : (e : Refusal) (y : Result ℕ JoinError) → Err e ≡ passed (asked 1 (leb most_file (length out)) 0) → IsErrAnd y (λ d. d ≡ Refused e) → JoinsFiles f c g out out y
  unfolding joined_of joined_after size
  short_output e y h p =
      let (z, q) = asked-no _ e h in
      rw (err_is y (Refused e) p, q) (record { answers = rw z; output = refl; suffices = omega arith })

  module _ (room : most_file ≤ length out) where
    pub first-refused : (e : Refusal) (y : Result ℕ JoinError) → Err e ≡ answer_of (reading_of f most_cells) → IsErrAnd y (λ d. d ≡ FirstRefused e) → JoinsFiles f c g out out y
    unfolding joined_of joined_after size
    first-refused e y h p =
        let (q, z) = read_refused f most_cells e h in
        rw (err_is y (FirstRefused e) p)
        (record { answers = rw (is_true (says_le most_file (length out)) room, ← q, ne_eqb e.number 0 z); output = refl; suffices = omega arith })

    pub second-refused : (reading_of f most_cells).refusal.number ≡ 0 → (e : Refusal) (y : Result ℕ JoinError) → Err e ≡ answer_of (reading_of g most_cells) → IsErrAnd y (λ d. d ≡ SecondRefused e) → JoinsFiles f c g out out y
    unfolding joined_of joined_after size
    second-refused x e y h p =
        let (q, z) = read_refused g most_cells e h in
        rw (err_is y (SecondRefused e) p)
        (record { answers = rw (is_true (says_le most_file (length out)) room, eq-eqb (reading_of f most_cells).refusal.number 0 x, ← q, ne_eqb e.number 0 z); output = refl; suffices = omega arith })

    module _ (x : (reading_of f most_cells).refusal.number ≡ 0) (y : (reading_of g most_cells).refusal.number ≡ 0) where
      join-refused : (r : Refusal) → r ≡ tables_refusal f c g → ¬ (r.number ≡ 0) → JoinsFiles f c g out out (Err (Refused r))
      unfolding joined_of joined_after size
      join-refused r e z =
          record {
            answers = rw (is_true (says_le most_file (length out)) room, eq-eqb (reading_of f most_cells).refusal.number 0 x, eq-eqb (reading_of g most_cells).refusal.number 0 y, ← e, ne_eqb r.number 0 z);
            output = refl;
            suffices = omega arith;
          }

      join_written : (tables_refusal f c g).number ≡ 0 → (r : Result ℕ JoinError) (out' : List ℕ) → r ≡ Ok (length (joined_file f c g)) → out' ≡ joined_file f c g ++ drop (length (joined_file f c g)) out → JoinsFiles f c g out out' r
      unfolding joined_of joined_after size
      join_written z r out' p q =
          record {
            answers = p ∙ rw (is_true (says_le most_file (length out)) room, eq-eqb (reading_of f most_cells).refusal.number 0 x, eq-eqb (reading_of g most_cells).refusal.number 0 y, eq-eqb (tables_refusal f c g).number 0 z);
            output = rw p q;
            suffices = rw p (file_small f c g x y z);
          }

-- ---- two plans that Read gave, and the columns of their join
module _ (a : Reading) (f : List ℕ) (c : ℕ) (b : Reading) (g : List ℕ) (ra : Read a f) (rb : Read b g) where
  abbrev by : ℕ
  by = length (letters_of f)

  abbrev why : Refusal
  why = stop most_cells (lettered a) (shifted by b) c

  abbrev joint : Result Lettered Refusal
  joint = graft_of most_cells (lettered a) (shifted by b) c

  why-is : why ≡ tables_refusal f c g
  unfolding tables_refusal
  why-is = rw (clean-table f a ra.is ra.passes, clean-table g b rb.is rb.passes)

  -- the join of the columns that the code has
  pub joint_is : (u : Lettered) (ls : List ℕ) (x : Result Lettered Refusal) → ls ≡ letters_of f → u ≡ shifted (length ls) b → x ≡ graft_of most_cells (lettered a) u c → x ≡ joint
  joint_is u ls x l q e = e ∙ rw (q, l)

  pub hang-refused : (out : List ℕ) → most_file ≤ length out → (e : Refusal) (y : Result ℕ JoinError) → Err e ≡ joint → IsErrAnd y (λ d. d ≡ Refused e) → JoinsFiles f c g out out y
  hang-refused out room e y h p = rw (err_is y (Refused e) p) (go (ℕ_discrete why.number 0))
    where
      go : Dec (why.number ≡ 0) → JoinsFiles f c g out out (Err (Refused e))
      go (yes z) = cc (h ∙ graft_accepted most_cells (lettered a) (shifted by b) c z)
      go (no z) =
          let q : e ≡ why = cc (h ∙ graft_refused most_cells (lettered a) (shifted by b) c z) in
          join-refused f c g out room (zero_read a f ra) (zero_read b g rb) e (q ∙ why-is) (rw q z)

  module _ (l : Lettered) (h : Ok l ≡ joint) where
    why_zero : Dec (why.number ≡ 0) → why.number ≡ 0
    why_zero (yes z) = z
    why_zero (no z) = cc (h ∙ graft_refused most_cells (lettered a) (shifted by b) c z)

    zero_why : why.number ≡ 0
    zero_why = why_zero (ℕ_discrete why.number 0)

    zero_tables : (tables_refusal f c g).number ≡ 0
    zero_tables = ap (λ (x : Refusal). x.number) (sym why-is) ∙ zero_why

    made-is : l ≡ accepted (lettered a) (shifted by b) (grafted a.columns b.columns c)
    made-is = cc (h ∙ graft_accepted most_cells (lettered a) (shifted by b) c zero_why)

    joined_are : records_in l ≡ joined_records (records_of f) (map (moved (length (letters_of f))) (records_of g)) c
    joined_are =
        let k = count-joined most_cells (lettered a) (shifted by b) c zero_why in
        ap records_in made-is
        ∙ made-records (lettered a) (shifted by b) c k.1 k.2
        ∙ rw (records_are a f ra, shifted-records b g rb by)

    pub hang-written : (out out' : List ℕ) (al : ℕ) (letters : List ℕ) (r : Result ℕ JoinError) → most_file ≤ length out → al ≡ a.allowance → letters ≡ letters_of f ++ letters_of g → Writes l letters al out out' r → JoinsFiles f c g out out' r
    unfolding told
    hang-written out out' al letters r room q s w = given w.copied (rw (joined_are, s, q ∙ clean_allowance f a ra.is ra.passes) at w.copies) w.answers
      where
        given : (d : Result ℕ Refusal) → Copies (joined_records (records_of f) (map (moved (length (letters_of f))) (records_of g)) c) (letters_of f ++ letters_of g) (trailer_of f).allowance out out' d → r ≡ told d → JoinsFiles f c g out out' r
        given d k s =
            let x = zero_read a f ra in
            let y = zero_read b g rb in
            let w = writer_writes (joined_records (records_of f) (map (moved (length (letters_of f))) (records_of g)) c) (letters_of f ++ letters_of g) (trailer_of f).allowance out out' d k (file_copied f c g x y zero_tables (length out) room) in
            let v = rw (file-is f c g x y zero_tables) at w in
            join_written f c g out room x y zero_tables r out' (s ∙ ap told v.0) v.1
