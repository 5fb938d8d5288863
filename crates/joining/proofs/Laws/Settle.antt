-- A complete cell joins its parent: the scratch and the marks then show the children joined so far, with it. Assumes nothing.
use Rattle.std.specs.Prelude.{◌≡◌, ◌≢◌, List, Bool, true, false, cond, ℕ, zero, suc, ◌+◌, ◌-◌, ◌*◌, ◌≤◌, ◌<◌, max, length, get_or, ltb}
use Rattle.std.proofs.Math.Path.{refl}
use Rattle.std.proofs.Common.{◌∙◌, sym, arith, length-set, ltb-true, ltb-false, lt-ltb, le-ltb}
use Rattle.plan.specs.Limits.{last_row, farthest}
use Rattle.contours.specs.Contour.{Contour, greatest}
use Rattle.folding.proofs.Laws.Join.{upto, beyond, separation_to}
use Rattle.rows.specs.Rows.{row_size, extent, Low, put_to}
use Rattle.rows.proofs.Laws.Rows.{put_to-length, put_to-above, put_to_else, put_to-left, put_to-right, put_to-left_off, put_to-right_off}
use Rattle.folding.proofs.Laws.Fold.{Tally, first, later, side, add_at, add, boxed}
use Rattle.folding.proofs.Laws.Lists.{get_past}
use Rattle.folding.proofs.Laws.Held.{Held, Fits, Between, between, upto_left, upto_past, beyond_past, upto_tall, beyond_tall, held_upto_right, held_beyond_left, held_beyond_right, held_add, box-fits}
use Rattle.joining.specs.Joining.{Memory, memory_of, mark, noted, height, completed, settled_apart, settled_first, settled_by, settled_at, settled, Settling, finished}
use Rattle.joining_separation.proofs.Laws.Separation.{apart_is}
use Rattle.joining_cells.proofs.Laws.Marks.{length-four, mark_zero, mark-one, mark-two, mark-three, mark-other, noted-three, noted_else}
use Rattle.joining_cells.proofs.Laws.Complete.{Under, Complete, complete, height-is, left_tall, right_tall}

-- the rows xs, from the top row of the child c on, show in the columns of its parent f the children a joined so far, and in its own its children b
pub record Given (xs ms : List ℕ) (at f c d w m k : ℕ) (a b : Tally) (s n : ℕ) : Type 0 where
  pub column : at ≤ 60
  pub apart_cells : f ≢ c
  pub theirs : 4 * f + 4 ≤ length ms
  pub under : Under xs ms (at + 2) c d k b n
  pub held : Held m a s
  pub light : s + ((w + 1) + n) ≤ farthest
  pub left : (j : ℕ) → extent xs j at ≡ get_or a.merge.left j 0
  pub right : (j : ℕ) → extent xs j (at + 1) ≡ get_or a.merge.right j 0
  pub fit : row_size * length a.merge.left ≤ length xs
  pub small : d + 1 + length b.merge.left ≤ last_row + 1
  pub smallf : length a.merge.left ≤ last_row + 1
  pub tall : mark ms f 0 ≡ length a.merge.left
  pub edge : mark ms f 1 ≡ a.edge
  pub past : mark ms f 2 ≡ a.merge.past
  pub far : mark ms f 3 ≡ a.far
  pub low : Low xs

-- what the rows show then
pub record Joined (xs ys : List ℕ) (at : ℕ) (a : Tally) : Type 0 where
  pub same : length ys ≡ length xs
  pub left : (j : ℕ) → extent ys j at ≡ get_or a.merge.left j 0
  pub right : (j : ℕ) → extent ys j (at + 1) ≡ get_or a.merge.right j 0
  pub left_off : (j : ℕ) → extent ys j (at + 2) ≡ 0
  pub right_off : (j : ℕ) → extent ys j (at + 3) ≡ 0
  pub else : (j k : ℕ) → k < row_size → k ≢ at → k ≢ at + 1 → k ≢ at + 2 → k ≢ at + 3 → extent ys j k ≡ extent xs j k

-- and the marks of both
pub record Marked (ms ns : List ℕ) (f c : ℕ) (a b : Tally) (p : Contour) : Type 0 where
  pub same : length ns ≡ length ms
  pub tall : mark ns f 0 ≡ length a.merge.left
  pub edge : mark ns f 1 ≡ a.edge
  pub past : mark ns f 2 ≡ a.merge.past
  pub far : mark ns f 3 ≡ a.far
  pub mark0 : mark ns c 0 ≡ b.far - b.merge.past
  pub mark1 : mark ns c 1 ≡ greatest p.left
  pub mark2 : mark ns c 2 ≡ greatest p.right
  pub mark3 : mark ns c 3 ≡ a.far
  pub others : (x k : ℕ) → k < 4 → x ≢ f → x ≢ c → mark ns x k ≡ mark ms x k

-- rows put below n
put-joined : (xs X : List ℕ) (at : ℕ) (L R : ℕ → ℕ) (n : ℕ) (a : Tally) → at ≤ 60 → row_size * n ≤ length X → length X ≡ length xs
    → ((j k : ℕ) → k < row_size → k ≢ at + 2 → k ≢ at + 3 → extent X j k ≡ extent xs j k)
    → ((j : ℕ) → j < n → (L j ≡ get_or a.merge.left j 0) × (R j ≡ get_or a.merge.right j 0))
    → ((j : ℕ) → n ≤ j → (extent X j at ≡ get_or a.merge.left j 0) × (extent X j (at + 1) ≡ get_or a.merge.right j 0) × (extent X j (at + 2) ≡ 0) × (extent X j (at + 3) ≡ 0))
    → Joined xs (put_to X at L R n) at a
put-joined xs X at L R n a c f len beside up down =
    record {
      same = put_to-length X at L R n ∙ len;
      left = λ j. at_row j at _ (omega arith) (λ l. put_to-left X at L R n c f j l ∙ (up j l).0) (λ l. (down j l).0) (ltb j n) refl;
      right = λ j. at_row j (at + 1) _ (omega arith) (λ l. put_to-right X at L R n c f j l ∙ (up j l).1) (λ l. (down j l).1) (ltb j n) refl;
      left_off = λ j. at_row j (at + 2) 0 (omega arith) (λ l. put_to-left_off X at L R n c f j l) (λ l. (down j l).2) (ltb j n) refl;
      right_off = λ j. at_row j (at + 3) 0 (omega arith) (λ l. put_to-right_off X at L R n c f j l) (λ l. (down j l).3) (ltb j n) refl;
      else = λ j k b n0 n1 n2 n3. put_to_else X at L R n c f j k b n0 n1 n2 n3 ∙ beside j k b n2 n3;
    }
  where
    at_row : (j k v : ℕ) → k < row_size → (j < n → extent (put_to X at L R n) j k ≡ v) → (n ≤ j → extent X j k ≡ v) → (b : Bool) → ltb j n ≡ b → extent (put_to X at L R n) j k ≡ v
    at_row j k v l up down true q = up (ltb-true j n q)
    at_row j k v l up down false q = let ge = ltb-false j n q in put_to-above X at L R n c f j k l ge ∙ down ge

module _ (al : ℕ) (xs ms : List ℕ) (at f c d w m k : ℕ) (a b : Tally) (s n : ℕ) (h : Given xs ms at f c d w m k a b s n) where
  abbrev C : Memory
  C = completed (memory_of xs ms) (at + 2) c d w

  abbrev p : Contour
  p = boxed d w b

  abbrev hs : ℕ
  hs = height ms c d

  done : Complete xs ms (at + 2) c w b p C
  done = complete xs ms (at + 2) c d w k b n h.under

  p-fits : Fits p ((w + 1) + n)
  p-fits = box-fits d w k b n h.under.held

  hs-is : hs ≡ d + 1 + length b.merge.left
  hs-is = height-is xs ms (at + 2) c d w k b n h.under

  p-left : length p.left ≡ hs
  p-left = left_tall xs ms (at + 2) c d w k b n h.under

  p-right : length p.right ≡ hs
  p-right = right_tall xs ms (at + 2) c d w k b n h.under

  -- the rows of the child, of its parent, and those past the child's last
  x-right : (j : ℕ) → extent C.rows j (at + 3) ≡ get_or p.right j 0
  x-right j = let i : at + 2 + 1 ≡ at + 3 = omega arith in rw i at (done.right j)

  x_else : (j i : ℕ) → i < row_size → i ≢ at + 2 → i ≢ at + 3 → extent C.rows j i ≡ extent xs j i
  x_else j i l n0 n1 = done.beside j i l n0 (omega arith)

  x-first : (j : ℕ) → extent C.rows j at ≡ get_or a.merge.left j 0
  x-first j = x_else j at (omega (arith, h.column)) (omega arith) (omega arith) ∙ h.left j

  x-second : (j : ℕ) → extent C.rows j (at + 1) ≡ get_or a.merge.right j 0
  x-second j = x_else j (at + 1) (omega (arith, h.column)) (omega arith) (omega arith) ∙ h.right j

  past_left : (j : ℕ) → hs ≤ j → extent C.rows j (at + 2) ≡ 0
  past_left j l = done.left j ∙ get_past p.left j (omega (arith, p-left))

  past_right : (j : ℕ) → hs ≤ j → extent C.rows j (at + 3) ≡ 0
  past_right j l = x-right j ∙ get_past p.right j (omega (arith, p-right))

  hs-fits : row_size * hs ≤ length C.rows
  hs-fits = omega (arith, hs-is, done.same, h.under.fit)

  -- the marks of the parent
  own : 4 * c + 4 ≤ length C.marks
  own = omega (arith, done.same_marks, h.under.own)

  theirs : 4 * f + 4 ≤ length C.marks
  theirs = omega (arith, done.same_marks, h.theirs)

  c≢f : c ≢ f
  c≢f e = h.apart_cells (sym e)

  n_tall : mark C.marks f 0 ≡ length a.merge.left
  n_tall = done.others f 0 (omega arith) h.apart_cells ∙ h.tall

  n-edge : mark C.marks f 1 ≡ a.edge
  n-edge = done.others f 1 (omega arith) h.apart_cells ∙ h.edge

  n_past : mark C.marks f 2 ≡ a.merge.past
  n_past = done.others f 2 (omega arith) h.apart_cells ∙ h.past

  n-far : mark C.marks f 3 ≡ a.far
  n-far = done.others f 3 (omega arith) h.apart_cells ∙ h.far

  pub settling : Settling C at f c hs
  settling =
      record {
        column = h.column;
        own = own;
        theirs = theirs;
        rows = hs-fits;
        tall = omega (arith, n_tall, done.same, h.fit);
        small = omega (arith, hs-is, h.small);
        smallf = omega (arith, n_tall, h.smallf);
        low = done.low (omega (arith, h.light)) h.low;
        edge = omega (arith, n-edge, h.held.wide, h.light);
        past = omega (arith, n_past, h.held.wide, h.light);
        far = omega (arith, n-far, h.held.far, h.light);
        left = omega (arith, done.mark1, p-fits.wide, h.light);
      }

  -- the distance
  g-is : settled_apart C at f c hs al ≡ separation_to al a.merge p
  g-is = apart_is C at f c hs al a.merge p x-second done.left (omega (arith, n_tall, h.held.even)) p-left (n-edge ∙ h.held.seen) n_past done.mark1

  -- ---- the ways to join
  joined-first : a.done ≡ 0 → Joined xs (settled_first C at f c hs).rows at (first p)
  joined-first e =
      let none = h.held.none e in
      put-joined xs C.rows at _ _ hs (first p) h.column hs-fits done.same x_else
      (λ j l. (rw (le-ltb j 0 (omega arith)) (done.left j), x-right j))
      (λ j l. (
        x-first j ∙ get_past a.merge.left j (omega arith) ∙ sym (get_past p.left j (omega (arith, p-left))),
        x-second j ∙ get_past a.merge.right j (omega (arith, h.held.even)) ∙ sym (get_past p.right j (omega (arith, p-right))),
        past_left j l,
        past_right j l,
      ))

  joined-later : (g : ℕ) → Between a p g → (z : Bool) → ltb m a.done ≡ z → Joined xs (settled_by C at f c hs z g).rows at (later a p g (side z a.merge p g))
  joined-later g i true q =
      put-joined xs C.rows at _ _ hs (later a p g (beyond a.merge p g)) h.column hs-fits done.same x_else
      (λ j l. (
        x-first j ∙ sym (held_beyond_left al m a p s h.held g i j),
        rw (n_past, x-right j) (sym (held_beyond_right al m a p s h.held g i j ∙ rw (lt-ltb j (length p.right) (omega (arith, p-right))))),
      ))
      (λ j l. (
        x-first j ∙ sym (held_beyond_left al m a p s h.held g i j),
        x-second j ∙ sym (held_beyond_right al m a p s h.held g i j ∙ rw (le-ltb j (length p.right) (omega (arith, p-right)))),
        past_left j l,
        past_right j l,
      ))
  joined-later g i false q =
      let fits : row_size * max (mark C.marks f 0) hs ≤ length C.rows = omega (arith, hs-fits, n_tall, h.fit, done.same) in
      let len = upto_tall a.merge p g in
      let right : (j : ℕ) → get_or (upto a.merge p g).right j 0 ≡ get_or p.right j 0 = held_upto_right al m a p s h.held g i (ltb-false m a.done q) in
      put-joined xs C.rows at _ _ (max (mark C.marks f 0) hs) (later a p g (upto a.merge p g)) h.column fits done.same x_else
      (λ j l. (
        rw (n_tall, x-first j, done.left j) (sym (upto_left a.merge p g j)),
        x-right j ∙ sym (right j),
      ))
      (λ j l. (
        x-first j ∙ get_past a.merge.left j (omega (arith, n_tall)) ∙ sym (get_past (upto a.merge p g).left j (omega (arith, n_tall, p-left))),
        x-second j ∙ get_past a.merge.right j (omega (arith, h.held.even, n_tall)) ∙ sym (right j ∙ get_past p.right j (omega (arith, p-right))),
        past_left j (omega arith),
        past_right j (omega arith),
      ))

  marked-first : Marked ms (settled_first C at f c hs).marks f c (first p) b p
  marked-first =
      record {
        same = length-four C.marks f _ _ _ _ ∙ done.same_marks;
        tall = mark_zero C.marks f _ _ _ _ theirs ∙ sym p-left;
        edge = mark-one C.marks f _ _ _ _ theirs ∙ done.mark2;
        past = mark-two C.marks f _ _ _ _ theirs;
        far = mark-three C.marks f _ _ _ _ theirs;
        mark0 = mark-other C.marks f _ _ _ _ c 0 (omega arith) c≢f ∙ done.mark0;
        mark1 = mark-other C.marks f _ _ _ _ c 1 (omega arith) c≢f ∙ done.mark1;
        mark2 = mark-other C.marks f _ _ _ _ c 2 (omega arith) c≢f ∙ done.mark2;
        mark3 = mark-other C.marks f _ _ _ _ c 3 (omega arith) c≢f ∙ done.mark3;
        others = λ x i l nf nc. mark-other C.marks f _ _ _ _ x i l nf ∙ done.others x i l nc;
      }

  side_tall : (g : ℕ) (z : Bool) → length (side z a.merge p g).left ≡ max (mark C.marks f 0) hs
  side_tall g true = omega (arith, beyond_tall a.merge p g, n_tall, p-left)
  side_tall g false = omega (arith, upto_tall a.merge p g, n_tall, p-left)

  side_past : (g : ℕ) (z : Bool) → cond z (mark C.marks f 2 + g) 0 ≡ (side z a.merge p g).past
  side_past g true = omega (arith, beyond_past a.merge p g, n_past)
  side_past g false = sym (upto_past a.merge p g)

  marked-later : (g : ℕ) (z : Bool) → Marked ms (settled_by C at f c hs z g).marks f c (later a p g (side z a.merge p g)) b p
  marked-later g z =
      let N = noted C.marks c (mark C.marks f 3 + g) in
      let len : length N ≡ length C.marks = simp length-set in
      let th : 4 * f + 4 ≤ length N = rw len theirs in
      record {
        same = length-four N f _ _ _ _ ∙ len ∙ done.same_marks;
        tall = mark_zero N f _ _ _ _ th ∙ sym (side_tall g z);
        edge = mark-one N f _ _ _ _ th ∙ done.mark2;
        past = mark-two N f _ _ _ _ th ∙ side_past g z;
        far = mark-three N f _ _ _ _ th ∙ rw n-far;
        mark0 = mark-other N f _ _ _ _ c 0 (omega arith) c≢f ∙ noted_else C.marks c _ c 0 (omega arith) ∙ done.mark0;
        mark1 = mark-other N f _ _ _ _ c 1 (omega arith) c≢f ∙ noted_else C.marks c _ c 1 (omega arith) ∙ done.mark1;
        mark2 = mark-other N f _ _ _ _ c 2 (omega arith) c≢f ∙ noted_else C.marks c _ c 2 (omega arith) ∙ done.mark2;
        mark3 = mark-other N f _ _ _ _ c 3 (omega arith) c≢f ∙ noted-three C.marks c _ own ∙ rw n-far;
        others = λ x i l nf nc. mark-other N f _ _ _ _ x i l nf ∙ noted_else C.marks c _ x i (omega arith) ∙ done.others x i l nc;
      }

  pub record Settled (M : Memory) (a' : Tally) : Type 0 where
    pub rows : Joined xs M.rows at a'
    pub marks : Marked ms M.marks f c a' b p

  by_place : (q : ℕ) → a.done ≡ q → Settled (settled_at C at f c hs q m al) (add_at al m q a p)
  by_place zero e = record { rows = joined-first e; marks = marked-first }
  by_place (suc q) e =
      let g = separation_to al a.merge p in
      let i : Between a p g = between al m a p s h.held in
      let z = ltb m (suc q) in
      rw g-is (record { rows = joined-later g i z (rw e); marks = marked-later g z })

  -- the whole step
  pub settle_adds : Settled (finished (memory_of xs ms) at f c d w a.done m al) (add al m a p)
  unfolding add settled
  settle_adds = by_place a.done refl

  pub held_after : Held m (add al m a p) (s + ((w + 1) + n))
  held_after = held_add al m a p s h.held ((w + 1) + n) p-fits
