-- Laws of the definitions in specs/Walked.antt. Assumes nothing.
use Rattle.std.specs.Prelude.{◌≡◌, Bool, true, false, ℕ, zero, suc, ◌+◌, ◌-◌, ◌*◌, ◌/◌, ◌%◌, ◌≤◌, ◌<◌, length, get_or, ltb}
use Rattle.std.proofs.Math.Path.{refl}
use Rattle.std.proofs.Common.{◌∙◌, ap, sym, subst, inl, inr, div-add-mod', arith, ext_get_or, ltb-true, ltb-false}
use mathlib.Core.List.{List, [], ◌∷◌}
use Rattle.std.proofs.Math.Decide.{ℕ_discrete}
use Rattle.plan.specs.Limits.{most_cells, most_width, scratch_size, farthest}
use Rattle.plan.specs.Lists.{At}
use Rattle.plan.specs.Plan.{Table, Is, box_width, children, place, level, row}
use Rattle.plan.proofs.Laws.Plan.{child-read}
use Rattle.plan.proofs.Laws.Paths.{Below, below_split, below_root, child_less}
use Rattle.plan.proofs.Laws.Sums.{total-parts, total-subtree}
use Rattle.contours.specs.Contour.{Contour, greatest}
use Rattle.contours.specs.Sheet.{contours, whole_contour}
use Rattle.contours.proofs.Laws.Forest.{Forest, forest, grown}
use Rattle.rows.specs.Rows.{row_size, extent, Low, box_to}
use Rattle.rows.proofs.Laws.Rows.{box_to-length, box-left, box-right, box-above, box-beside}
use Rattle.folding.proofs.Laws.Fold.{Tally, fresh, boxed, partial}
use Rattle.folding.proofs.Laws.Folded.{partial-none, partial-box, partial-middle}
use Rattle.folding.proofs.Laws.Lists.{get_past}
use Rattle.folding.proofs.Laws.Held.{held_fresh, box-fits}
use Rattle.joining.specs.Joining.{Memory, memory_of, mark, height, completed}
use Rattle.joining_cells.proofs.Laws.Marks.{low_marks, low_four}
use Rattle.joining_cells.proofs.Laws.Complete.{Under, Complete, complete, completing, height-is, left_tall, right_tall}
use Rattle.links.specs.Links.{link}
use Rattle.walk.specs.Machine.{Chart, State, wide, deep, root_closed, step, Turning}
use Rattle.walk.proofs.Laws.Machine.{step_end, Safe, most_turns, turns, turns_are}
use Rattle.walk.specs.Turns.{stack_of, state_of}
use Rattle.walk.proofs.Laws.Tree.{tail_all, Out, below-below, sum, below-most, sum-within}
use Rattle.walk.proofs.Laws.Shows.{Shows, SameMarks, Kept}
use Rattle.walk.specs.Walked.{Suits, Right, Walking, Walked}
use Rattle.walk.proofs.Laws.Claim.{right-keep, Rights, at, claim}

zeros-same : (xs ys : List ℕ) → length ys ≡ length xs → ((i : ℕ) → get_or xs i 0 ≡ 0) → ((j k : ℕ) → k < row_size → extent ys j k ≡ 0) → ys ≡ xs
zeros-same xs ys len zx zy = ext_get_or 0 ys xs len (λ i l.
    let e : row_size * (i / row_size) + i % row_size ≡ i = omega (arith, div-add-mod' i row_size) in
    (rw e at (zy (i / row_size) (i % row_size) (omega arith))) ∙ sym (zx i))

-- ---- the root is closed, with the children a joined
module _ (b : Chart) (xs ms ys ns : List ℕ) (m : ℕ) (a : Tally) (n : ℕ) (Outside : ℕ → Type 0)
    (h : Shows ys ns 0 0 (deep b 0 + 1) m a n) (kept : Kept xs ms ys ns 0 0 (deep b 0 + 1) Outside) (clear : (i : ℕ) → get_or xs i 0 ≡ 0) where
  abbrev d : ℕ
  d = deep b 0

  abbrev w : ℕ
  w = wide b 0

  abbrev p : Contour
  p = boxed d w a

  under : Under ys ns 0 0 d m a n
  under =
      record {
        column = omega arith;
        own = omega (arith, h.many);
        held = h.held;
        left = h.left;
        right = h.right;
        fit = omega (arith, h.room, h.size);
        tall = h.tall;
        past = h.past;
        far = h.far;
      }

  abbrev C : Memory
  C = completed (memory_of ys ns) 0 0 d w

  done : Complete ys ns 0 0 w a p C
  done = complete ys ns 0 0 d w m a n under

  abbrev hs : ℕ
  hs = height ns 0 d

  abbrev Y : List ℕ
  Y = box_to C.rows 0 0 hs

  fits : row_size * hs ≤ length C.rows
  fits = omega (arith, height-is ys ns 0 0 d w m a n under, done.same, under.fit)

  -- a row of the root's, or one past its last
  own_row : (j k : ℕ) (vs : List ℕ) → k < row_size → length vs ≡ hs → ((j : ℕ) → extent C.rows j k ≡ get_or vs j 0) → ((j : ℕ) → j < hs → extent Y j k ≡ 0) → (z : Bool) → ltb j hs ≡ z → extent Y j k ≡ 0
  own_row j k vs l len is box true e = box j (ltb-true _ _ e)
  own_row j k vs l len is box false e = let le = ltb-false j hs e in box-above C.rows 0 0 hs (omega arith) j k l le ∙ is j ∙ get_past vs j (omega arith)

  y_zero : (j k : ℕ) → k < row_size → extent Y j k ≡ 0
  y_zero j zero l = own_row j 0 p.left l (left_tall ys ns 0 0 d w m a n under) done.left (box-left C.rows 0 0 hs (omega arith) fits) (ltb j hs) refl
  y_zero j (suc zero) l = own_row j 1 p.right l (right_tall ys ns 0 0 d w m a n under) done.right (box-right C.rows 0 0 hs (omega arith) fits) (ltb j hs) refl
  y_zero j (suc (suc k)) l =
      box-beside C.rows 0 0 hs (omega arith) j (suc (suc k)) l (omega arith) (omega arith) ∙ done.beside j (suc (suc k)) l (omega arith) (omega arith) ∙ go (ltb j (d + 1)) refl
    where
      go : (z : Bool) → ltb j (d + 1) ≡ z → extent ys j (suc (suc k)) ≡ 0
      go true e = kept.above j (suc (suc k)) l (ltb-true _ _ e) ∙ clear _
      go false e =
          let le : d + 1 ≤ j = ltb-false _ _ e in
          let i : d + 1 + (j - (d + 1)) ≡ j = omega arith in
          rw i at (h.clear (j - (d + 1)) (suc (suc k)) (omega arith) l)

  root_rows : Y ≡ xs
  root_rows = zeros-same xs Y (box_to-length C.rows 0 0 hs ∙ done.same ∙ kept.same) clear y_zero

  root_low : (w + 1) + n ≤ farthest + 1 → Low C.marks
  root_low l = low_marks C.marks (λ x k q. go x k q (ℕ_discrete x 0))
    where
      wide-p : greatest p.left + greatest p.right + 1 ≤ (w + 1) + n
      wide-p = (box-fits d w m a n h.held).wide

      go : (x k : ℕ) → k < 4 → Dec (x ≡ 0) → mark C.marks x k ≤ farthest
      go x k q (yes e) = rw e (low_four C.marks 0 (omega (arith, done.mark0, h.held.far)) (omega (arith, done.mark1, wide-p)) (omega (arith, done.mark2, wide-p)) (omega (arith, done.mark3)) k q)
      go x k q (no ne) = rw (done.others x k q ne) (h.low_marked (4 * x + k))

module _ (t : Table) (b : Chart) (su : Suits t b) (xs ms : List ℕ) (lx : scratch_size ≤ length xs) (clear : (i : ℕ) → get_or xs i 0 ≡ 0) (lm : 4 * most_cells ≤ length ms) (blank : (i : ℕ) → get_or ms i 0 ≡ 0) where
  abbrev al : ℕ
  al = b.allowance

  abbrev F : Forest
  F = forest t (length t) 0

  abbrev appointed : ℕ
  appointed = place t 0 (length (contours t al 0))

  abbrev weight : ℕ
  weight = sum (λ x. box_width t x + 1) F

  root_is : Is t 0
  root_is = su.fit.some_cell

  in_table : (i s : ℕ) → At (children t 0) i s → Is t s
  in_table i s h = (child_less t su.fit.sound 0 i s h).1

  size_low : 1 + sum (λ x. 1) F ≤ most_cells
  size_low =
      omega (
        arith,
        sum-within t su.fit.sound (λ x. 1) (grown t su.fit.sound 0) in_table,
        total-parts t su.fit.sound (λ x. 1) 0 root_is,
        total-subtree t (λ x. 1) 0 1 (λ a i. omega arith),
        su.fit.not_too_many,
      )

  weight_low : (box_width t 0 + 1) + weight ≤ farthest + 1
  weight_low =
      omega (
        arith,
        sum-within t su.fit.sound (λ x. box_width t x + 1) (grown t su.fit.sound 0) in_table,
        total-parts t su.fit.sound (λ x. box_width t x + 1) 0 root_is,
        total-subtree t (λ x. box_width t x + 1) 0 (most_width + 1) (λ a i. omega (arith, su.fit.wide a i)),
        su.fit.not_too_many,
      )

  -- what holds at the end
  pub record End (m : Memory) : Type 0 where
    pub scratch : m.rows ≡ xs
    pub low : Low m.marks
    pub root : mark m.marks 0 3 ≡ 0
    pub marked : (x : ℕ) → Is t x → Right t al m.marks x

  start : Shows xs ms 0 0 (deep b 0 + 1) appointed fresh 0
  start =
      record {
        size = lx;
        many = lm;
        held = held_fresh appointed;
        room = omega (arith, su.deep_of 0 root_is, su.fit.rows_few 0 root_is);
        left = λ j. clear _;
        right = λ j. clear _;
        clear = λ j k p q. clear _;
        tall = blank _;
        edge = blank _;
        past = blank _;
        far = blank _;
        low = λ i. omega (arith, clear i);
        low_marked = λ i. omega (arith, blank i);
      }

  -- the last turn
  module _ (ys ns : List ℕ) (a : Tally) (ea : a ≡ partial t al 0 (length (children t 0))) (h : Shows ys ns 0 0 (deep b 0 + 1) appointed a (0 + weight))
      (kept : Kept xs ms ys ns 0 0 (deep b 0 + 1) (λ x. Out t x (children t 0))) (rights : Rights t al ns 0 0 (children t 0)) where
    abbrev O : ℕ → Type 0
    O x = Out t x (children t 0)

    abbrev M : List ℕ
    M = (completed (memory_of ys ns) 0 0 (deep b 0) (wide b 0)).marks

    full : Complete ys ns 0 0 (wide b 0) a (boxed (deep b 0) (wide b 0) a) (completed (memory_of ys ns) 0 0 (deep b 0) (wide b 0))
    full = done b xs ms ys ns appointed a (0 + weight) O h kept clear

    ending : Turning b (at 0 [] 0 ys ns)
    ending =
        record {
          some = omega arith;
          many = omega arith;
          into = λ l. absurd (omega (arith, l));
          shut = λ e. record {
            widths = omega (arith, su.widths);
            depths = omega (arith, su.depths);
            rooting = record { completing = completing ys ns 0 0 (deep b 0) (wide b 0) appointed a (0 + weight) (under b xs ms ys ns appointed a (0 + weight) O h kept clear) };
          };
        }

    p-is : boxed (deep b 0) (wide b 0) a ≡ whole_contour t al 0
    p-is = rw (su.deep_of 0 root_is, su.wide_of 0 root_is, ea) (partial-box t al 0 (length (children t 0)) refl)

    child-same : (i s : ℕ) → At (children t 0) i s → (x : ℕ) → Below t x s → SameMarks ns M x
    child-same i s c x w k l = full.others x k l (λ e. omega (arith, below-most t su.fit.sound w, (child-read t 0 i s c).low, e))

    root_right : Right t al M 0
    root_right =
        record {
          middle_of = full.mark0 ∙ rw ea (partial-middle t al 0 (length (children t 0)) refl);
          left_of = full.mark1 ∙ ap (λ (p : Contour). greatest p.left) p-is;
          right_of = full.mark2 ∙ ap (λ (p : Contour). greatest p.right) p-is;
          offset_of = λ i s c. child-same i s c s Below.here 3 (omega arith) ∙ rights.stand i s c ∙ (let z : 0 + i ≡ i = omega arith in rw z);
        }

    all_right : (x : ℕ) → Is t x → Right t al M x
    all_right x i =
        elim (below_split (below_root t su.fit.sound x i)) [
          | inl e ↦ rw e root_right
          | inr (j, s, c, w) ↦ right-keep t al ns M x (λ y y-under. child-same j s c y (below-below y-under w)) (rights.below x j s c w)
        ]

    end : End (root_closed (memory_of ys ns) (deep b 0) (wide b 0))
    unfolding root_closed
    end =
        record {
          scratch = root_rows b xs ms ys ns appointed a (0 + weight) O h kept clear;
          low = root_low b xs ms ys ns appointed a (0 + weight) O h kept clear (omega (arith, weight_low, su.wide_of 0 root_is));
          root = full.mark3;
          marked = all_right;
        }

    last : Safe b End 1 (at 0 [] 0 ys ns)
    last = (ending, subst (Safe b End 0) (sym (step_end b 0 (memory_of ys ns))) (refl, end))

  -- the whole walk is safe, and ends well
  pub safe : Safe b End (2 * sum (λ x. 1) F + 1) (at 0 [] (link b.links 0 0) xs ms)
  unfolding level row
  safe =
      rw (su.links.first 0 root_is)
      (claim t b su End (grown t su.fit.sound 0) 0 0 (deep b 0 + 1) 0 [] fresh 0 xs ms 1 root_is refl (omega (arith, su.deep_of 0 root_is)) (sym (partial-none t al 0)) refl (tail_all t 0)
      (λ x i s c w k l. blank _) start (omega (arith, weight_low)) last)

-- ---- what the loop keeps: some number of safe turns, of at most two for each cell, leads to the end
pub record Keeps (b : Chart) (xs : List ℕ) (st : State) : Type 0 where
  pub left : ℕ
  pub few : left ≤ most_turns
  pub safe : Safe b (λ m. Walked b xs m.rows m.marks) left st

-- two accounts of one walk end together
module _ (b : Chart) (Q : Memory → Type 0) {X : Type 0} (P : X → Memory → Type 0) where
  safe_all : (n : ℕ) (st : State) → Safe b Q n st → ((x : X) → (k : ℕ) × Safe b (P x) k st) → Safe b (λ m. Q m × ((x : X) → P x m)) n st
  safe_all zero st s h = (s.0, (s.1, λ x. go (h x)))
    where
      go : {x : X} → ((k : ℕ) × Safe b (P x) k st) → P x st.memory
      go (zero, z) = z.1
      go (suc k, z) = absurd (omega (arith, s.0, z.0.some))
  safe_all (suc n) st s h = (s.0, safe_all n (step b st) s.1 (λ x. go (h x)))
    where
      go : {x : X} → ((k : ℕ) × Safe b (P x) k st) → (k : ℕ) × Safe b (P x) k (step b st)
      go (zero, z) = absurd (omega (arith, s.0.some, z.0))
      go (suc k, z) = (k, z.1)

safe_map : (b : Chart) (P Q : Memory → Type 0) → ((m : Memory) → P m → Q m) → (n : ℕ) (st : State) → Safe b P n st → Safe b Q n st
safe_map b P Q f zero st s = (s.0, f st.memory s.1)
safe_map b P Q f (suc n) st s = (s.0, safe_map b P Q f n (step b st) s.1)

module _ (b : Chart) (xs ms : List ℕ) (g : Walking b xs ms) where
  abbrev Ends : (t : Table) → Suits t b → Memory → Type 0
  Ends t su m = End t b su xs ms g.rows g.clear g.marks g.blank m

  abbrev Both : Memory → Type 0
  Both m = Ends g.table g.suits m × ((x : (t : Table) × Suits t b) → Ends x.0 x.1 m)

  walked : (m : Memory) → Both m → Walked b xs m.rows m.marks
  walked m h = record { scratch = h.0.scratch; low = h.0.low; root = h.0.root; marked = λ t su. (h.1 (t, su)).marked }

  abbrev begin : State
  begin = at 0 [] (link b.links 0 0) xs ms

  -- the turns of the whole walk
  abbrev all_turns : Table → ℕ
  all_turns t = 2 * sum (λ x. 1) (forest t (length t) 0) + 1

  ends : (t : Table) (su : Suits t b) → Safe b (Ends t su) (all_turns t) begin
  ends t su = safe t b su xs ms g.rows g.clear g.marks g.blank

  both : Safe b Both (all_turns g.table) begin
  both = safe_all b (Ends g.table g.suits) (λ (x : (t : Table) × Suits t b). Ends x.0 x.1) (all_turns g.table) begin (ends g.table g.suits) (λ x. (all_turns x.0, ends x.0 x.1))

  keeps : Keeps b xs begin
  keeps =
      record {
        left = all_turns g.table;
        few = omega (arith, size_low g.table b g.suits xs ms g.rows g.clear g.marks g.blank);
        safe = safe_map b Both (λ m. Walked b xs m.rows m.marks) walked (all_turns g.table) begin both;
      }

  pub keeps_start : (cs : List ℕ) (k n : ℕ) → stack_of cs k ≡ 0 ∷ [] → n ≡ link b.links 0 0 → Keeps b xs (state_of cs k n xs ms)
  keeps_start cs k n e en = rw (e, en) keeps

safe_some : (b : Chart) (P : Memory → Type 0) (n : ℕ) (st : State) → Safe b P n st → 0 < length st.stack → (m : ℕ) × (n ≡ suc m) × Turning b st × Safe b P m (step b st)
safe_some b P zero st s l = absurd (omega (arith, s.0))
safe_some b P (suc n) st s l = (n, refl, s.0, s.1)

module _ (b : Chart) (xs : List ℕ) (st : State) (h : Keeps b xs st) (l : 0 < length st.stack) where
  pub keeps_turning : Turning b st
  keeps_turning = (safe_some b _ h.left st h.safe l).2

  pub keeps_turn : (st' : State) → st' ≡ step b st → Keeps b xs st'
  keeps_turn st' e =
      let (m, q, a, s) = safe_some b _ h.left st h.safe l in
      rw e (record { left = m; few = omega (arith, h.few); safe = s })

  pub keeps_less : (st' : State) → st' ≡ step b st → turns b most_turns st' < turns b most_turns st
  keeps_less st' e =
      let (m, q, a, s) = safe_some b _ h.left st h.safe l in
      rw e (omega (arith, turns_are b _ most_turns h.left st h.safe h.few, turns_are b _ most_turns m (step b st) s (omega (arith, h.few))))

safe_none : (b : Chart) (P : Memory → Type 0) (n : ℕ) (st : State) → Safe b P n st → length st.stack ≡ 0 → P st.memory
safe_none b P zero st s e = s.1
safe_none b P (suc n) st s e = absurd (omega (arith, s.0.some))

pub keeps_end : (b : Chart) (xs : List ℕ) (st : State) → Keeps b xs st → length st.stack ≡ 0 → Walked b xs st.memory.rows st.memory.marks
keeps_end b xs st h e = safe_none b _ h.left st h.safe e
