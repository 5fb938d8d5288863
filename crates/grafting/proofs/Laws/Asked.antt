-- The questions of a join as the code puts them to columns, and the answer. Assumes nothing.
use Rattle.std.specs.Prelude.{◌≡◌, refl, Result, Ok, Err, IsErrAnd, ⊤, ℕ, ◌+◌, ◌-◌, ◌≤◌, ◌<◌, leb, ltb}
use Rattle.std.proofs.Common.{sym, ap, ◌∙◌, arith, ltb→lt}
use Rattle.std.proofs.Math.Decide.{dec_lt}
use Rattle.plan.specs.Limits.{between, most_cells, most_depth}
use Rattle.plan.specs.Plan.{Sound}
use Rattle.plan.specs.Columns.{table_of}
use Rattle.plan.proofs.Laws.Tables.{length-is, parent_is}
use Rattle.plan.specs.Trees.{Lower, Flat}
use Rattle.plan.proofs.Laws.Trees.{lower-sound}
use Rattle.plan.specs.Questions.{asked, or_else, answered, passed}
use Rattle.plan.proofs.Laws.Questions.{asked_yes, both-none}
use Rattle.plan.proofs.Laws.Answered.{passes, answers_err, err_stops, answers_ok, ok_goes_on}
use Rattle.plan.proofs.Laws.Kept.{or_assoc}
use Rattle.plan.specs.Steps.{cells_refusal, tree_refusal}
use Rattle.plan.proofs.Laws.Steps.{counted-read, cells-lower, cells-flat}
use Rattle.plan.specs.declared.Columns.{Columns}
use Rattle.plan.specs.declared.Lettered.{Lettered}
use Rattle.plan.specs.declared.Refusal.{Refusal}
use Rattle.planfile_spec.proofs.Laws.Examined.{zero_of, column-at}
use Rattle.graft.specs.Joined.{joined}
use Rattle.graft.specs.Sequence.{join_refusal, part_refusal}
use Rattle.graft.proofs.Laws.Joined.{length-joined, joined-sound}
use Rattle.graft.proofs.Laws.Sequence.{join-puts}
use Rattle.grafting.specs.Grafted.{picked, grafted, Graftable, ready_refusal, accepted, graft_of}
use Rattle.grafting.proofs.Laws.Grafted.{picked_first, picked-second, grafted-count, grafted-table}

-- ---- what 4 and 6 to 8 establish
pub record Fine (t : Columns) : Type 0 where
  pub low : Lower t.parent t.count
  pub flat : Flat t.depth t.count

module _ (t : Columns) where
  pub part-columns : or_else (asked 4 (between 1 most_cells t.count) 0) (cells_refusal (table_of t)) ≡ part_refusal (table_of t)
  part-columns = rw (length-is t)

  pub part-read : (r : Refusal) → r ≡ part_refusal (table_of t) → r.number ≡ 0 → Fine t
  part-read r e z =
      let (a, b) = both-none (asked 4 (between 1 most_cells t.count) 0) _ (zero_of r _ (e ∙ sym part-columns) z) in
      let (s, f) = counted-read t.count _ refl a in
      record {
        low = cells-lower t.parent t.kind t.width t.depth t.rank t.count b s f;
        flat = cells-flat t.parent t.kind t.width t.depth t.rank t.count b;
      }

-- ---- what all questions but 11 to 13 establish
pub record Ready (t u : Columns) (c : ℕ) : Type 0 where
  pub first_fine : Fine t
  pub second_fine : Fine u
  pub able : Graftable t u c

module _ (t u : Columns) (c : ℕ) where
  pub ready_columns : (room : ℕ) → or_else (asked 1 (leb most_cells room) 0)
      (or_else (part_refusal (table_of t))
      (or_else (part_refusal (table_of u))
      (or_else (asked 16 (ltb c t.count) 0) (asked 4 (between 1 most_cells (t.count + u.count)) 0)))) ≡ ready_refusal room (table_of t) (table_of u) c
  unfolding ready_refusal
  ready_columns room = rw (length-is t, length-is u)

  pub ready_read : (room : ℕ) (r : Refusal) → r ≡ ready_refusal room (table_of t) (table_of u) c → r.number ≡ 0 → Ready t u c
  ready_read room r e z =
      let (p, q) = both-none (asked 1 (leb most_cells room) 0) _ (zero_of r _ (e ∙ sym (ready_columns room)) z) in
      let (a, q2) = both-none (part_refusal (table_of t)) _ q in
      let (b, q3) = both-none (part_refusal (table_of u)) _ q2 in
      let (d, f) = both-none (asked 16 (ltb c t.count) 0) _ q3 in
      let y = part-read u (part_refusal (table_of u)) refl b in
      record {
        first_fine = part-read t (part_refusal (table_of t)) refl a;
        second_fine = y;
        able = record { few = (counted-read (t.count + u.count) _ refl f).1; named = ltb→lt c t.count (asked_yes 15 _ 0 d); lower = y.low.lower };
      }

  module _ (h : Ready t u c) where
    pub is-joined : table_of (grafted t u c) ≡ joined (table_of t) (table_of u) c
    is-joined = grafted-table t u c h.second_fine.low.some h.able.few

    sound : Sound (table_of (grafted t u c))
    sound =
        let st : Sound (table_of t) = lower-sound t.parent t.kind t.width t.depth t.rank t.count h.first_fine.low in
        let su : Sound (table_of u) = lower-sound u.parent u.kind u.width u.depth u.rank u.count h.second_fine.low in
        let s = joined-sound (table_of t) (table_of u) st (omega (arith, length-is t, h.first_fine.low.some)) (omega (arith, length-is u, h.second_fine.low.some)) c (omega (arith, length-is t, h.able.named)) su in
        rw is-joined s

    count-is : (grafted t u c).count ≡ t.count + u.count
    count-is = grafted-count t u c h.second_fine.low.some h.able.few

    joined_low : Lower (grafted t u c).parent (grafted t u c).count
    joined_low =
        record {
          some = omega (arith, count-is, h.first_fine.low.some);
          few = omega (arith, count-is, h.able.few);
          lower = λ i p l. omega (arith, parent_is (grafted t u c) i l, sound i p (omega (arith, length-is (grafted t u c))));
        }

    depth_at : (i : ℕ) → i < t.count + u.count → Dec (i < t.count) → picked t.count t.depth u.depth i ≤ most_depth
    depth_at i l (yes p) = omega (arith, picked_first t.count t.depth u.depth i p, h.first_fine.flat.flat i p)
    depth_at i l (no p) = omega (arith, picked-second t.count t.depth u.depth i (omega arith), h.second_fine.flat.flat (i - t.count) (omega arith))

    joined-flat : Flat (grafted t u c).depth (grafted t u c).count
    unfolding grafted
    joined-flat = record { flat = λ i l. omega (arith, column-at (picked t.count t.depth u.depth) (t.count + u.count) i h.able.few l, depth_at i l (dec_lt i t.count)) }

    -- columns that equal them
    module _ (x : Columns) (e : x ≡ grafted t u c) where
      pub low_of : Lower x.parent x.count
      low_of = rw e joined_low

      pub flat-of : Flat x.depth x.count
      flat-of = rw e joined-flat

  -- ---- the answer
  all-questions : (room : ℕ) → join_refusal room (table_of t) (table_of u) c ≡ or_else (ready_refusal room (table_of t) (table_of u) c) (tree_refusal (joined (table_of t) (table_of u) c))
  unfolding ready_refusal
  all-questions room = join-puts room (table_of t) (table_of u) c ∙ rw (length-joined (table_of t) (table_of u) c) (simp or_assoc)

module _ (t u : Lettered) (c room : ℕ) where
  abbrev why : Refusal
  why = ready_refusal room (table_of t.columns) (table_of u.columns) c

  abbrev made : Lettered
  made = accepted t u (grafted t.columns u.columns c)

  answer-is : (y : Result Lettered Refusal) → y ≡ answered (or_else why (tree_refusal (joined (table_of t.columns) (table_of u.columns) c))) made → y ≡ graft_of room t u c
  unfolding graft_of
  answer-is y e = e ∙ ap (λ (r : Refusal). answered r made) (sym (all-questions t.columns u.columns c room))

  pub stopped : (e : Refusal) (y : Result Lettered Refusal) → Err e ≡ passed why → IsErrAnd y (λ d. d ≡ e) → y ≡ graft_of room t u c
  stopped e y h p = answer-is y (err_stops made why e y h p _)

  module _ (w : ⊤) (h : Ok w ≡ passed why) where
    pub ready-passed : Ready t.columns u.columns c
    ready-passed = ready_read t.columns u.columns c room why refl (passes why w h)

    module _ (x : Columns) (g : x ≡ grafted t.columns u.columns c) where
      tree-is : tree_refusal (table_of x) ≡ tree_refusal (joined (table_of t.columns) (table_of u.columns) c)
      tree-is = ap (λ (y : Columns). tree_refusal (table_of y)) g ∙ ap tree_refusal (is-joined t.columns u.columns c ready-passed)

      went_on : (y : Result Lettered Refusal) → y ≡ answered (tree_refusal (table_of x)) made → y ≡ graft_of room t u c
      went_on y e = answer-is y (ok_goes_on why w h made _ y (e ∙ ap (λ (r : Refusal). answered r made) tree-is))

      pub stopped-later : (e : Refusal) (y : Result Lettered Refusal) → Err e ≡ passed (tree_refusal (table_of x)) → IsErrAnd y (λ d. d ≡ e) → y ≡ graft_of room t u c
      stopped-later e y q p = went_on y (answers_err made (tree_refusal (table_of x)) e y q p)

      pub joins : (v : ⊤) → Ok v ≡ passed (tree_refusal (table_of x)) → (l : Lettered) → l ≡ accepted t u x → Ok l ≡ graft_of room t u c
      joins v q l e = went_on (Ok l) (ap Ok (e ∙ ap (accepted t u) g) ∙ answers_ok (tree_refusal (table_of x)) v q made)
