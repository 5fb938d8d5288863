-- What the scratch and the marks show while a cell is open, and how it changes when a child is opened and closed. Assumes nothing.
use Rattle.std.specs.Prelude.{◌≡◌, refl, ◌≢◌, List, Bool, true, false, length, get_or, ltb}
use Rattle.std.proofs.Common.{◌∙◌, ap, arith, ltb-true, ltb-false}
use Rattle.std.proofs.Math.Path.{sym, subst}
use Prim.Native.Nat.{ℕ, suc, ◌+◌, ◌-◌, ◌*◌, ◌≤◌, ◌<◌}
use Rattle.std.proofs.Math.Decide.{ℕ_discrete}
use Rattle.plan.specs.Limits.{most_cells, most_level, last_row, scratch_size, farthest}
use Rattle.contours.specs.Contour.{Contour, greatest}
use Rattle.rows.specs.Rows.{row_size, extent, Low}
use Rattle.rows.proofs.Laws.Rows.{Column, column, left, right, left_off, right_off, other}
use Rattle.folding.proofs.Laws.Fold.{Tally, fresh, add, boxed}
use Rattle.folding.proofs.Laws.Lists.{get_greatest, get_past, length-box}
use Rattle.folding.proofs.Laws.Held.{Held, held_fresh, add_tall, box-fits}
use Rattle.joining.specs.Joining.{Memory, memory_of, mark, finished}
use Rattle.joining_cells.proofs.Laws.Numbers.{low_rows}
use Rattle.joining_cells.proofs.Laws.Marks.{low_marks, low_four}
use Rattle.joining_cells.proofs.Laws.Complete.{Under, completing}
use Rattle.joining.proofs.Laws.Settle.{Given, Joined, Marked, Settled, settling, settle_adds, held_after}
use Rattle.links.specs.Links.{link}
use Rattle.walk.specs.Machine.{Chart, wide, deep, top, apt, stretch, with_stretch, stretch_rows, joined_in, closed, Closing}
use Rattle.walk.proofs.Laws.Stretch.{stretch-length, stretch-at, put-length, put-above, put-at, put-below, row_past}

-- the open cell f, at level v with its rows from u on and the appointed place m, has the children a joined, whose widths sum up to n
pub record Shows (xs ms : List ℕ) (f v u m : ℕ) (a : Tally) (n : ℕ) : Type 0 where
  pub size : scratch_size ≤ length xs
  pub many : 4 * most_cells ≤ length ms
  pub held : Held m a n
  pub room : u + length a.merge.left ≤ last_row + 1
  pub left : (j : ℕ) → extent xs (u + j) (2 * v) ≡ get_or a.merge.left j 0
  pub right : (j : ℕ) → extent xs (u + j) (2 * v + 1) ≡ get_or a.merge.right j 0
  pub clear : (j k : ℕ) → 2 * v + 2 ≤ k → k < row_size → extent xs (u + j) k ≡ 0
  pub tall : mark ms f 0 ≡ length a.merge.left
  pub edge : mark ms f 1 ≡ a.edge
  pub past : mark ms f 2 ≡ a.merge.past
  pub far : mark ms f 3 ≡ a.far
  pub low : Low xs
  pub low_marked : Low ms

abbrev pub SameMarks : List ℕ → List ℕ → ℕ → Type 0
SameMarks ms ns x = (k : ℕ) → k < 4 → mark ns x k ≡ mark ms x k

-- the rest is as it was: the rows above, the columns before, and the marks of the cells but f that are out
pub record Kept (xs ms ys ns : List ℕ) (f v u : ℕ) (Outside : ℕ → Type 0) : Type 0 where
  pub same : length ys ≡ length xs
  pub same_marks : length ns ≡ length ms
  pub above : (i k : ℕ) → k < row_size → i < u → extent ys i k ≡ extent xs i k
  pub before : (i k : ℕ) → k < row_size → k < 2 * v → extent ys i k ≡ extent xs i k
  pub others : (x : ℕ) → x ≢ f → Outside x → SameMarks ms ns x

pub kept-none : (xs ms : List ℕ) (f v u : ℕ) (O : ℕ → Type 0) → Kept xs ms xs ms f v u O
kept-none xs ms f v u O = record { same = refl; same_marks = refl; above = λ i k a b. refl; before = λ i k a b. refl; others = λ x a b k l. refl }

pub kept_then : (xs ms ys ns zs os : List ℕ) (f v u : ℕ) (O P R : ℕ → Type 0) → ((x : ℕ) → R x → O x × P x) → Kept xs ms ys ns f v u O → Kept ys ns zs os f v u P → Kept xs ms zs os f v u R
kept_then xs ms ys ns zs os f v u O P R out p q =
    record {
      same = q.same ∙ p.same;
      same_marks = q.same_marks ∙ p.same_marks;
      above = λ i k l lt. q.above i k l lt ∙ p.above i k l lt;
      before = λ i k l lt. q.before i k l lt ∙ p.before i k l lt;
      others = λ x nf o k l. q.others x nf (out x o).1 k l ∙ p.others x nf (out x o).0 k l;
    }

-- a cell of level v, the child at place i, its box from row y on, in the columns of the chart
pub record Fine (b : Chart) (y v i c : ℕ) : Type 0 where
  pub small : c < most_cells
  pub shallow : v ≤ most_level
  pub row : top b c ≡ y
  pub low : y + deep b c ≤ last_row
  pub place : link b.links c 2 ≡ i

-- the columns of the chart are long enough
pub record Long (b : Chart) : Type 0 where
  pub links : 4 * most_cells ≤ length b.links
  pub widths : most_cells ≤ length b.widths
  pub depths : most_cells ≤ length b.depths
  pub tops : most_cells ≤ length b.tops

-- a child is opened
pub open_shows : (b : Chart) (xs ms : List ℕ) (f v u m : ℕ) (a : Tally) (n i c k : ℕ) → Shows xs ms f v u m a n → Fine b u (suc v) i c → ((k : ℕ) → k < 4 → mark ms c k ≡ 0)
    → Shows xs ms c (suc v) (u + deep b c + 1) k fresh 0
open_shows b xs ms f v u m a n i c k h fine z =
    let nil : (j k : ℕ) → 2 * v + 2 ≤ k → k < row_size → extent xs (u + deep b c + 1 + j) k ≡ 0 =
    (λ j k p q. let e : u + (deep b c + 1 + j) ≡ u + deep b c + 1 + j = omega arith in rw e at (h.clear (deep b c + 1 + j) k p q)) in
    record {
      size = h.size;
      many = h.many;
      held = held_fresh k;
      room = omega (arith, fine.low);
      left = λ j. nil j (2 * suc v) (omega arith) (omega (arith, fine.shallow));
      right = λ j. nil j (2 * suc v + 1) (omega arith) (omega (arith, fine.shallow));
      clear = λ j k p q. nil j k (omega arith) q;
      tall = z 0 (omega arith);
      edge = z 1 (omega arith);
      past = z 2 (omega arith);
      far = z 3 (omega arith);
      low = h.low;
      low_marked = h.low_marked;
    }

-- what is shown after the child c, with the children e and the contour p, is closed
pub record Shut (xs ms ns : List ℕ) (f v u m : ℕ) (a : Tally) (n c : ℕ) (e : Tally) (p : Contour) (Outside : ℕ → Type 0) (M : Memory) : Type 0 where
  pub shows : Shows M.rows M.marks f v u m a n
  pub kept : Kept xs ms M.rows M.marks f v u (λ x. (x ≢ c) × Outside x)
  pub mark0 : mark M.marks c 0 ≡ e.far - e.merge.past
  pub mark1 : mark M.marks c 1 ≡ greatest p.left
  pub mark2 : mark M.marks c 2 ≡ greatest p.right
  pub mark3 : mark M.marks c 3 ≡ a.far
  pub same : (x : ℕ) → x ≢ f → x ≢ c → SameMarks ns M.marks x

-- a child is closed: xs, ms before it was opened, ys, ns when its own children are joined
module _ (b : Chart) (xs ms ys ns : List ℕ) (f v u m : ℕ) (a : Tally) (s i c k : ℕ) (e : Tally) (n : ℕ) (Outside : ℕ → Type 0)
    (h : Shows xs ms f v u m a s) (fine : Fine b u (suc v) i c) (hc : Shows ys ns c (suc v) (u + deep b c + 1) k e n)
    (kept : Kept xs ms ys ns c (suc v) (u + deep b c + 1) Outside) (f≢c : f ≢ c) (f_small : f < most_cells) (out : Outside f)
    (light : s + ((wide b c + 1) + n) ≤ farthest) (place : a.done ≡ i) (appointed : apt b f ≡ m) (long : Long b) where
  -- the rows of the stretch below the box of f: those of the deeper, of the children before and of c
  abbrev N : ℕ
  N = stretch_rows b f c ns

  abbrev zs : List ℕ
  zs = stretch ys (top b c) N

  row : top b c ≡ u
  row = fine.row

  f_marks : SameMarks ms ns f
  f_marks = kept.others f f≢c out

  f_tall : mark ns f 0 ≡ length a.merge.left
  f_tall = f_marks 0 (omega arith) ∙ h.tall

  parents_fit : length a.merge.left ≤ N
  parents_fit = omega (arith, f_tall)

  childs_fit : deep b c + 1 + length e.merge.left ≤ N
  childs_fit = omega (arith, hc.tall)

  few : u + N ≤ last_row + 1
  few = omega (arith, f_tall, hc.tall, h.room, hc.room)

  fits : row_size * top b c + row_size * N ≤ length ys
  fits = omega (arith, few, row, hc.size)

  z_length : length zs ≡ row_size * N
  z_length = stretch-length ys (top b c) N fits

  z_in : (j k : ℕ) → k < row_size → j < N → extent zs j k ≡ extent ys (u + j) k
  z_in j k l lt = stretch-at ys (top b c) N fits j k l lt ∙ ap (λ (y : ℕ). extent ys (y + j) k) row

  -- below the stretch the columns of f and of the levels under it are empty
  y_below : (j k : ℕ) → extent ys (u + (deep b c + 1 + j)) k ≡ extent ys (u + deep b c + 1 + j) k
  y_below j k = let q : u + (deep b c + 1 + j) ≡ u + deep b c + 1 + j = omega arith in ap (λ (y : ℕ). extent ys y k) q

  y_past : (j k : ℕ) → 2 * v ≤ k → k < row_size → N ≤ j → extent ys (u + j) k ≡ 0
  y_past j k p l le = go k (column (2 * v) k) p l
    where
      own : (k : ℕ) → (extent ys (u + deep b c + 1 + (j - (deep b c + 1))) k ≡ 0) → extent ys (u + j) k ≡ 0
      own k g = let q : deep b c + 1 + (j - (deep b c + 1)) ≡ j = omega (arith, childs_fit) in rw q at (y_below (j - (deep b c + 1)) k ∙ g)

      go : (k : ℕ) → Column (2 * v) k → 2 * v ≤ k → k < row_size → extent ys (u + j) k ≡ 0
      go k left p l = kept.before (u + j) (2 * v) l (omega arith) ∙ h.left j ∙ get_past a.merge.left j (omega (arith, parents_fit))
      go k right p l = kept.before (u + j) (2 * v + 1) l (omega arith) ∙ h.right j ∙ get_past a.merge.right j (omega (arith, parents_fit, h.held.even))
      go k left_off p l = own (2 * v + 2) (let q : 2 * suc v ≡ 2 * v + 2 = omega arith in (rw q at (hc.left (j - (deep b c + 1)))) ∙ get_past e.merge.left (j - (deep b c + 1)) (omega (arith, childs_fit)))
      go k right_off p l = own (2 * v + 3) (let q : 2 * suc v + 1 ≡ 2 * v + 3 = omega arith in (rw q at (hc.right (j - (deep b c + 1)))) ∙ get_past e.merge.right (j - (deep b c + 1)) (omega (arith, childs_fit, hc.held.even)))
      go k (other n0 n1 n2 n3) p l = own k (hc.clear (j - (deep b c + 1)) k (omega arith) l)

  -- so in these columns the stretch shows what the scratch does, in every row
  z_at : (j k : ℕ) → 2 * v ≤ k → k < row_size → extent zs j k ≡ extent ys (u + j) k
  z_at j k p l = go (ltb j N) refl
    where
      go : (z : Bool) → ltb j N ≡ z → extent zs j k ≡ extent ys (u + j) k
      go true g = z_in j k l (ltb-true j N g)
      go false g = let le = ltb-false j N g in row_past zs N j k z_length le ∙ sym (y_past j k p l le)

  z_before : (j k : ℕ) → 2 * v ≤ k → k < row_size → k < 2 * v + 2 → extent zs j k ≡ extent xs (u + j) k
  z_before j k p l lt = z_at j k p l ∙ kept.before (u + j) k l (omega arith)

  z_below : (j k : ℕ) → 2 * v ≤ k → k < row_size → extent zs (deep b c + 1 + j) k ≡ extent ys (u + deep b c + 1 + j) k
  z_below j k p l = z_at (deep b c + 1 + j) k p l ∙ y_below j k

  z_clear : (j k : ℕ) → 2 * v + 4 ≤ k → k < row_size → extent zs j k ≡ 0
  z_clear j k p q = go (ltb j (deep b c + 1)) refl
    where
      go : (z : Bool) → ltb j (deep b c + 1) ≡ z → extent zs j k ≡ 0
      go true g =
          let l : j < deep b c + 1 = ltb-true j (deep b c + 1) g in
          z_at j k (omega arith) q ∙ kept.above (u + j) k q (omega arith) ∙ h.clear j k (omega arith) q
      go false g =
          let ge : deep b c + 1 ≤ j = ltb-false j (deep b c + 1) g in
          let q' : deep b c + 1 + (j - (deep b c + 1)) ≡ j = omega arith in
          (rw q' at (z_below (j - (deep b c + 1)) k (omega arith) q)) ∙ hc.clear (j - (deep b c + 1)) k (omega arith) q

  z_low : Low zs
  z_low = low_rows zs (λ q k l. go q k l (ltb q N) refl)
    where
      go : (q k : ℕ) → k < row_size → (z : Bool) → ltb q N ≡ z → extent zs q k ≤ farthest
      go q k l true g = rw (z_in q k l (ltb-true q N g)) (hc.low (row_size * (u + q) + k))
      go q k l false g = rw (row_past zs N q k z_length (ltb-false q N g)) (omega arith)

  under : Under zs ns (2 * v + 2) c (deep b c) k e n
  under =
      record {
        column = omega (arith, fine.shallow);
        own = omega (arith, fine.small, hc.many);
        held = hc.held;
        left = λ j. let q : 2 * suc v ≡ 2 * v + 2 = omega arith in z_below j (2 * v + 2) (omega arith) (omega (arith, fine.shallow)) ∙ (rw q at (hc.left j));
        right = λ j. let q : 2 * suc v + 1 ≡ 2 * v + 2 + 1 = omega arith in z_below j (2 * v + 2 + 1) (omega arith) (omega (arith, fine.shallow)) ∙ (rw q at (hc.right j));
        fit = omega (arith, z_length, childs_fit);
        tall = hc.tall;
        past = hc.past;
        far = hc.far;
      }

  given : Given zs ns (2 * v) f c (deep b c) (wide b c) m k a e s n
  given =
      record {
        column = omega (arith, fine.shallow);
        apart_cells = f≢c;
        theirs = omega (arith, hc.many);
        under = under;
        held = h.held;
        light = light;
        left = λ j. z_before j (2 * v) (omega arith) (omega (arith, fine.shallow)) (omega arith) ∙ h.left j;
        right = λ j. z_before j (2 * v + 1) (omega arith) (omega (arith, fine.shallow)) (omega arith) ∙ h.right j;
        fit = omega (arith, z_length, parents_fit);
        small = omega (arith, hc.room);
        smallf = omega (arith, h.room);
        tall = f_tall;
        edge = f_marks 1 (omega arith) ∙ h.edge;
        past = f_marks 2 (omega arith) ∙ h.past;
        far = f_marks 3 (omega arith) ∙ h.far;
        low = z_low;
      }

  abbrev P : Contour
  P = boxed (deep b c) (wide b c) e

  abbrev A : Tally
  A = add b.allowance m a P

  pub closing : Closing b v f c ys ns
  closing =
      record {
        links = omega (arith, fine.small, long.links);
        linksf = omega (arith, long.links);
        widths = omega (arith, fine.small, long.widths);
        depths = omega (arith, fine.small, long.depths);
        tops = omega (arith, fine.small, long.tops);
        shallow = omega (arith, fine.shallow);
        own = omega (arith, fine.small, hc.many);
        theirs = omega (arith, hc.many);
        small = omega (arith, hc.tall, hc.room);
        fits = fits;
        low = z_low;
        finishing = record {
          completing = completing zs ns (2 * v + 2) c (deep b c) (wide b c) k e n under;
          settling = settling b.allowance zs ns (2 * v) f c (deep b c) (wide b c) m k a e s n given;
        };
      }

  M : Memory
  M = joined_in b v f c zs ns

  settled : Settled b.allowance zs ns (2 * v) f c (deep b c) (wide b c) m k a e s n given M A
  unfolding M
  settled =
      subst (λ (q : ℕ × ℕ). Settled b.allowance zs ns (2 * v) f c (deep b c) (wide b c) m k a e s n given (finished (memory_of zs ns) (2 * v) f c (deep b c) (wide b c) q.0 q.1 b.allowance) A)
      (λ j. ((place ∙ sym fine.place) j, sym appointed j)) (settle_adds b.allowance zs ns (2 * v) f c (deep b c) (wide b c) m k a e s n given)

  joined : Joined zs M.rows (2 * v) A
  joined = settled.rows

  marked : Marked ns M.marks f c A e P
  marked = settled.marks

  m-length : length M.rows ≡ row_size * N
  m-length = joined.same ∙ z_length

  abbrev qs : List ℕ
  qs = with_stretch ys (top b c) N M.rows

  q_in : (j k : ℕ) → k < row_size → j < N → extent qs (u + j) k ≡ extent M.rows j k
  q_in j k l lt = ap (λ (y : ℕ). extent qs (y + j) k) (sym row) ∙ put-at ys (top b c) N fits M.rows m-length j k l lt

  q-below : (j k : ℕ) → N ≤ j → extent qs (u + j) k ≡ extent ys (u + j) k
  q-below j k le = ap (λ (y : ℕ). extent qs (y + j) k) (sym row) ∙ put-below ys (top b c) N fits M.rows m-length j k le ∙ ap (λ (y : ℕ). extent ys (y + j) k) row

  q-at : (j k : ℕ) → 2 * v ≤ k → k < row_size → extent qs (u + j) k ≡ extent M.rows j k
  q-at j k p l = go (ltb j N) refl
    where
      go : (z : Bool) → ltb j N ≡ z → extent qs (u + j) k ≡ extent M.rows j k
      go true g = q_in j k l (ltb-true j N g)
      go false g = let le = ltb-false j N g in q-below j k le ∙ y_past j k p l le ∙ sym (row_past M.rows N j k m-length le)

  q-above : (q k : ℕ) → k < row_size → q < u → extent qs q k ≡ extent ys q k
  q-above q k l lt = put-above ys (top b c) N fits M.rows m-length q k l (omega (arith, row))

  q-length : length qs ≡ length xs
  q-length = put-length ys (top b c) N fits M.rows m-length ∙ kept.same

  -- a row above the stretch, one of it, or one below it
  by_row : (P : ℕ → Type 0) → ((q : ℕ) → q < u → P q) → ((j : ℕ) → j < N → P (u + j)) → ((j : ℕ) → N ≤ j → P (u + j)) → (q : ℕ) → P q
  by_row P above in-it below q = go (ltb q u) refl
    where
      on : (z : Bool) → ltb (q - u) N ≡ z → P (u + (q - u))
      on true g = in-it (q - u) (ltb-true (q - u) N g)
      on false g = below (q - u) (ltb-false (q - u) N g)

      go : (z : Bool) → ltb q u ≡ z → P q
      go true g = above q (ltb-true q u g)
      go false g =
          let ge : u ≤ q = ltb-false q u g in
          let eq : u + (q - u) ≡ q = omega arith in
          subst P eq (on (ltb (q - u) N) refl)

  held' : Held m A (s + ((wide b c + 1) + n))
  held' = held_after b.allowance zs ns (2 * v) f c (deep b c) (wide b c) m k a e s n given

  beside : (j k : ℕ) → 2 * v + 2 ≤ k → k < row_size → extent M.rows j k ≡ 0
  beside j k p q = go k (column (2 * v) k) p q
    where
      go : (k : ℕ) → Column (2 * v) k → 2 * v + 2 ≤ k → k < row_size → extent M.rows j k ≡ 0
      go k left p q = absurd (omega arith)
      go k right p q = absurd (omega arith)
      go k left_off p q = joined.left_off j
      go k right_off p q = joined.right_off j
      go k (other n0 n1 n2 n3) p q = joined.else j k q n0 n1 n2 n3 ∙ z_clear j k (omega arith) q

  earlier : (q k : ℕ) → k < row_size → k < 2 * v → extent qs q k ≡ extent xs q k
  earlier q k l lt =
      by_row (λ q. extent qs q k ≡ extent xs q k)
      (λ q o. q-above q k l o ∙ kept.before q k l (omega arith))
      (λ j o. q_in j k l o ∙ joined.else j k l (omega arith) (omega arith) (omega arith) (omega arith) ∙ z_in j k l o ∙ kept.before (u + j) k l (omega arith))
      (λ j o. q-below j k o ∙ kept.before (u + j) k l (omega arith)) q

  part_low : (j k : ℕ) → k < row_size → extent M.rows j k ≤ farthest
  part_low j k l = go k (column (2 * v) k) l
    where
      go : (k : ℕ) → Column (2 * v) k → k < row_size → extent M.rows j k ≤ farthest
      go k left l = rw (joined.left j) (omega (arith, get_greatest A.merge.left j, held'.wide, light))
      go k right l = rw (joined.right j) (omega (arith, held'.right j, held'.wide, light))
      go k left_off l = rw (joined.left_off j) (omega arith)
      go k right_off l = rw (joined.right_off j) (omega arith)
      go k (other n0 n1 n2 n3) l = rw (joined.else j k l n0 n1 n2 n3) (z_low (row_size * j + k))

  q_low : Low qs
  q_low = low_rows qs (λ q k l. by_row (λ q. extent qs q k ≤ farthest)
      (λ q o. rw (q-above q k l o) (hc.low (row_size * q + k)))
      (λ j o. rw (q_in j k l o) (part_low j k l))
      (λ j o. rw (q-below j k o) (hc.low (row_size * (u + j) + k))) q)

  rows_low : u + length A.merge.left ≤ last_row + 1
  rows_low = omega (arith, add_tall b.allowance m a P, length-box (deep b c + 1) 0 e.merge.left, hc.room, h.room)

  low_parent : (k : ℕ) → k < 4 → mark M.marks f k ≤ farthest
  low_parent = low_four M.marks f (omega (arith, marked.tall, rows_low)) (omega (arith, marked.edge, held'.wide, light)) (omega (arith, marked.past, held'.wide, light)) (omega (arith, marked.far, held'.far, light))

  p-wide : greatest P.left + greatest P.right + 1 ≤ (wide b c + 1) + n
  p-wide = (box-fits (deep b c) (wide b c) k e n hc.held).wide

  low_child : (k : ℕ) → k < 4 → mark M.marks c k ≤ farthest
  low_child =
      low_four M.marks c (omega (arith, marked.mark0, hc.held.far, light)) (omega (arith, marked.mark1, p-wide, light)) (omega (arith, marked.mark2, p-wide, light)) (omega (arith, marked.mark3, held'.far, light))

  m_low : Low M.marks
  m_low = low_marks M.marks (λ x k l. go x k l (ℕ_discrete x f) (ℕ_discrete x c))
    where
      go : (x k : ℕ) → k < 4 → Dec (x ≡ f) → Dec (x ≡ c) → mark M.marks x k ≤ farthest
      go x k l (yes q) _ = rw q (low_parent k l)
      go x k l (no nf) (yes q) = rw q (low_child k l)
      go x k l (no nf) (no nc) = rw (marked.others x k l nf nc) (hc.low_marked (4 * x + k))

  pub shut : Shut xs ms ns f v u m A (s + ((wide b c + 1) + n)) c e P Outside (closed b v f c (memory_of ys ns))
  unfolding closed M
  shut =
      record {
        shows = record {
          size = omega (arith, q-length, h.size);
          many = omega (arith, marked.same, kept.same_marks, h.many);
          held = held';
          room = rows_low;
          left = λ j. q-at j (2 * v) (omega arith) (omega (arith, fine.shallow)) ∙ joined.left j;
          right = λ j. q-at j (2 * v + 1) (omega arith) (omega (arith, fine.shallow)) ∙ joined.right j;
          clear = λ j k p q. q-at j k (omega arith) q ∙ beside j k p q;
          tall = marked.tall;
          edge = marked.edge;
          past = marked.past;
          far = marked.far;
          low = q_low;
          low_marked = m_low;
        };
        kept = record {
          same = q-length;
          same_marks = marked.same ∙ kept.same_marks;
          above = λ q k l lt. q-above q k l lt ∙ kept.above q k l (omega arith);
          before = λ q k l lt. earlier q k l lt;
          others = λ x nf o k l. marked.others x k l nf o.0 ∙ kept.others x o.0 o.1 k l;
        };
        mark0 = marked.mark0;
        mark1 = marked.mark1;
        mark2 = marked.mark2;
        mark3 = marked.mark3;
        same = λ x nf nc k l. marked.others x k l nf nc;
      }
