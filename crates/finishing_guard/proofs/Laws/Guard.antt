-- The guard gives all that the walk's functions ask, on any content of the scratches; and it holds wherever the walk is. Assumes nothing.
use Rattle.std.specs.Prelude.{◌≡◌, refl, ◌≢◌, List, Bool, true, false, ℕ, zero, suc, ◌+◌, ◌-◌, ◌*◌, ◌≤◌, ◌<◌, ◌↔◌, max, T, leb, length, get_or, set, take, drop, slice_index, EachIndex, IsTrue}
use Rattle.std.proofs.Common.{◌∙◌, ap, sym, subst, arith, le-leb, leb-true, leb-false, length-set, drop-set-lt}
use Rattle.std.proofs.Math.Decide.{ℕ_discrete, dec_lt}
use Rattle.plan.specs.Limits.{scratch_size, second_size, last_row, farthest}
use Rattle.rows.specs.Rows.{row_size, Low, box_to, max_to}
use Rattle.rows.proofs.Laws.Rows.{box_to-length}
use Rattle.joining.specs.Joining.{Memory, memory_of, mark, four, height, joined_rows, completed, Settling}
use Rattle.joining_cells.proofs.Laws.Numbers.{box_low, max_le}
use Rattle.joining_cells.proofs.Laws.Marks.{length-four, mark-one, mark-other}
use Rattle.folding.proofs.Laws.Lists.{get_past}
use Rattle.walk.specs.Machine.{Chart, wide, deep, top, stretch, closed, root_closed, Closing, Ending, Rooting}
use Rattle.walk.proofs.Laws.Stretch.{stretch-length}
use Rattle.finishing_guard.specs.Guard.{count_at}
use Rattle.finishing_guard.specs.Guard.{OwnRows, Guarded, Guards, Tells, Static, Tried, Finished}

-- ---- answers
pub bool_apart : true ≡ false → ⊥
bool_apart e = subst T e tt

pub tells_no : {P : Type 0} → (P → ⊥) → Tells false P
tells_no n = record { yes = λ e. absurd (bool_apart (sym e)); no = λ e. n }

pub tells_le : {P : Type 0} (a b : ℕ) → (a ≤ b → P) → (P → a ≤ b) → Tells (leb a b) P
tells_le a b f g = record { yes = λ e. f (leb-true a b e); no = λ e p. omega (arith, leb-false a b e, g p) }

-- ---- the greatest of the first i numbers
pub record Upto (xs : List ℕ) (g i : ℕ) : Type 0 where
  pub most : (j : ℕ) → j < i → get_or xs j 0 ≤ g
  pub least : (b : ℕ) → ((j : ℕ) → get_or xs j 0 ≤ b) → g ≤ b

pub upto-none : (xs : List ℕ) → Upto xs 0 0
upto-none xs = record { most = λ j l. absurd (omega arith); least = λ b h. omega arith }

pub upto-more : (xs : List ℕ) (g i h : ℕ) → Upto xs g i → h ≡ max g (get_or xs i 0) → Upto xs h (i + 1)
upto-more xs g i h u e = record {
  most = λ j l. elim (ℕ_discrete j i) [ yes q ↦ rw q (omega arith) | no ne ↦ omega (arith, u.most j (omega arith)) ];
  least = λ b k. omega (arith, u.least b k, k i);
}

pub upto_low : (xs : List ℕ) (g : ℕ) → Upto xs g (length xs) → IsTrue (leb g farthest) ↔ EachIndex xs (λ k. slice_index xs k ≤ farthest)
upto_low xs g u = (
  (λ e i q. omega (arith, u.most i q, leb-true g farthest e)),
  (λ h. le-leb g farthest (u.least farthest (λ j. elim (dec_lt j (length xs)) [ yes q ↦ h j q | no ge ↦ rw (get_past xs j (omega arith)) (omega arith) ]))),
)

pub tells_low : {P : Type 0} (xs : List ℕ) {r : Bool} → (IsTrue r ↔ EachIndex xs (λ k. slice_index xs k ≤ farthest)) → (Low xs → P) → (P → Low xs) → Tells r P
tells_low xs h f g = record {
  yes = λ e. f (λ i. elim (dec_lt i (length xs)) [ yes q ↦ h.0 e i q | no ge ↦ rw (get_past xs i (omega arith)) (omega arith) ]);
  no = λ e p. bool_apart (sym (h.1 (λ i q. g p i)) ∙ e);
}

-- ---- it gives all that the walk's functions ask: of a cell below the root
module _ (b : Chart) (level f c : ℕ) (xs ms : List ℕ) (s : Static b level f c xs ms) (f≢c : f ≢ c) (g : Guarded xs ms c f (deep b c) (top b c)) where
  abbrev y : ℕ
  y = top b c

  abbrev d : ℕ
  d = deep b c

  abbrev w : ℕ
  w = wide b c

  abbrev n : ℕ
  n = joined_rows ms f c d

  abbrev zs : List ℕ
  zs = stretch xs y n

  abbrev at : ℕ
  at = 2 * level + 2

  fits : row_size * y + row_size * n ≤ length xs
  fits = omega (arith, s.rows, g.own.fit, g.theirs.fit)

  z_long : length zs ≡ row_size * n
  z_long = stretch-length xs y n fits

  abbrev X : List ℕ
  X = box_to zs at w (d + 1)

  x-long : length X ≡ row_size * n
  x-long = box_to-length zs at w (d + 1) ∙ z_long

  x_low : Low X
  x_low = box_low zs at w (d + 1) s.narrow g.low

  abbrev M : List ℕ
  M = four ms c (mark ms c 3 - mark ms c 2) (max_to X at (height ms c d)) (max_to X (at + 1) (height ms c d)) 0

  other : (k : ℕ) → k < 4 → mark M f k ≡ mark ms f k
  other k l = mark-other ms c (mark ms c 3 - mark ms c 2) (max_to X at (height ms c d)) (max_to X (at + 1) (height ms c d)) 0 f k l f≢c

  m-long : length M ≡ second_size
  m-long = length-four ms c (mark ms c 3 - mark ms c 2) (max_to X at (height ms c d)) (max_to X (at + 1) (height ms c d)) 0 ∙ s.marks

  settling : Settling (completed (memory_of zs ms) at c d w) (2 * level) f c (height ms c d)
  unfolding completed
  settling =
      record {
        column = omega (arith, s.shallow);
        own = omega (arith, m-long, s.small);
        theirs = omega (arith, m-long, s.smallf);
        rows = omega (arith, x-long);
        tall = omega (arith, x-long, other 0 (omega arith));
        small = omega (arith, g.own.fit);
        smallf = omega (arith, g.theirs.fit, other 0 (omega arith));
        low = x_low;
        edge = omega (arith, other 1 (omega arith), g.theirs.edge);
        past = omega (arith, other 2 (omega arith), g.theirs.past);
        far = omega (arith, other 3 (omega arith), g.theirs.far);
        left = rw (mark-one ms c (mark ms c 3 - mark ms c 2) (max_to X at (height ms c d)) (max_to X (at + 1) (height ms c d)) 0 (omega (arith, s.marks, s.small)))
            (max_le X at farthest (λ j. x_low (row_size * j + at)) (height ms c d));
      }

  pub guard_closing : Closing b level f c xs ms
  guard_closing =
      record {
        links = omega (arith, s.links, s.small);
        linksf = omega (arith, s.links, s.smallf);
        widths = omega (arith, s.widths, s.small);
        depths = omega (arith, s.depths, s.small);
        tops = omega (arith, s.tops, s.small);
        shallow = s.shallow;
        own = omega (arith, s.marks, s.small);
        theirs = omega (arith, s.marks, s.smallf);
        small = omega (arith, g.own.fit);
        fits = fits;
        low = g.low;
        finishing = record {
          completing = record { column = omega (arith, s.shallow); own = omega (arith, s.marks, s.small); rows = omega (arith, z_long); behind = g.own.behind };
          settling = settling;
        };
      }

-- ---- and it holds wherever the walk is
module _ (b : Chart) (xs ms : List ℕ) (lx : length xs ≡ scratch_size) where
  pub closing_guard : (level f c : ℕ) → f ≢ c → Closing b level f c xs ms → Guarded xs ms c f (deep b c) (top b c)
  unfolding completed
  closing_guard level f c ne h =
      let st = h.finishing.settling in
      let zs = stretch xs (top b c) (joined_rows ms f c (deep b c)) in
      let X = box_to zs (2 * level + 2) (wide b c) (deep b c + 1) in
      let same : (k : ℕ) → k < 4 → mark (four ms c (mark ms c 3 - mark ms c 2) (max_to X (2 * level + 2) (height ms c (deep b c))) (max_to X (2 * level + 2 + 1) (height ms c (deep b c))) 0) f k ≡ mark ms f k =
      (λ k l. mark-other ms c (mark ms c 3 - mark ms c 2) (max_to X (2 * level + 2) (height ms c (deep b c))) (max_to X (2 * level + 2 + 1) (height ms c (deep b c))) 0 f k l ne) in
      record {
        own = record { behind = h.finishing.completing.behind; fit = omega (arith, h.fits, lx) };
        theirs = record {
          fit = omega (arith, h.fits, lx);
          edge = omega (arith, st.edge, same 1 (omega arith));
          past = omega (arith, st.past, same 2 (omega arith));
          far = omega (arith, st.far, same 3 (omega arith));
        };
        low = h.low;
      }

  pub ending_guard : Ending b (memory_of xs ms) → OwnRows ms 0 (deep b 0) 0
  ending_guard h = record { behind = h.rooting.completing.behind; fit = omega (arith, lx, h.rooting.completing.rows) }

-- the number of steps, in row 0, is in no stretch below a box
set-stretch : (xs : List ℕ) (v y n : ℕ) → 1 ≤ y → stretch (set xs count_at v) y n ≡ stretch xs y n
set-stretch xs v y n l = ap (take (row_size * n)) (drop-set-lt (row_size * y) xs count_at v (omega arith))

pub set_guard : (xs ms : List ℕ) (c f d y v : ℕ) → (1 ≤ c → 1 ≤ y) → Guards xs ms c f d y → Guards (set xs count_at v) ms c f d y
set_guard xs ms zero f d y v l g = g
set_guard xs ms (suc p) f d y v l g =
    record { own = g.own; theirs = g.theirs; low = rw (set-stretch xs v y (joined_rows ms f (suc p) d) (l (omega arith))) g.low }

-- ---- one cell
set_static : (b : Chart) (level f c : ℕ) (xs ms : List ℕ) (v : ℕ) → Static b level f c xs ms → Static b level f c (set xs count_at v) ms
set_static b level f c xs ms v s =
    record {
      links = s.links;
      widths = s.widths;
      depths = s.depths;
      tops = s.tops;
      small = s.small;
      smallf = s.smallf;
      shallow = s.shallow;
      other = s.other;
      narrow = s.narrow;
      fits = s.fits;
      under = s.under;
      rows = length-set xs count_at v ∙ s.rows;
      marks = s.marks;
    }

module _ (b : Chart) (level f c : ℕ) (xs ms : List ℕ) (s : Static b level f c xs ms) where
  pub child-closing : 1 ≤ c → Guarded xs ms c f (deep b c) (top b c) → Closing b level f c (set xs count_at 0) ms
  child-closing l g = guard_closing b level f c (set xs count_at 0) ms (set_static b level f c xs ms 0 s) (s.other l) (go c l (s.under l) g)
    where
      go : (c : ℕ) → 1 ≤ c → 1 ≤ top b c → Guarded xs ms c f (deep b c) (top b c) → Guarded (set xs count_at 0) ms c f (deep b c) (top b c)
      go zero l u g = absurd (omega arith)
      go (suc p) l u g = set_guard xs ms (suc p) f (deep b (suc p)) (top b (suc p)) 0 (λ _. u) g

-- ---- what was tried
pub tried_yes : {m n done : Memory} {guard : Type 0} → n ≡ done → Tried m n done guard true
tried_yes e = record { yes = λ _. e; no = λ z. absurd (bool_apart z); fires = λ z. absurd (bool_apart z) }

pub tried_no : {m done : Memory} {guard : Type 0} → (guard → ⊥) → Tried m m done guard false
tried_no h = record { yes = λ z. absurd (bool_apart (sym z)); no = λ _. refl; fires = λ _. h }

module _ (b : Chart) (level f c : ℕ) (xs ms : List ℕ) (n : Memory) (r : Bool) where
  pub finished-child : 1 ≤ c → Tried (memory_of xs ms) n (closed b level f c (memory_of (set xs count_at 0) ms)) (Guarded xs ms c f (deep b c) (top b c)) r → Finished b level f c (memory_of xs ms) n r
  finished-child l h = go c l h
    where
      go : (c : ℕ) → 1 ≤ c → Tried (memory_of xs ms) n (closed b level f c (memory_of (set xs count_at 0) ms)) (Guarded xs ms c f (deep b c) (top b c)) r → Finished b level f c (memory_of xs ms) n r
      go zero l h = absurd (omega arith)
      go (suc p) l h = h

  pub finished_root : c ≡ 0 → Tried (memory_of xs ms) n (root_closed (memory_of (set xs count_at 0) ms) (deep b 0) (wide b 0)) (OwnRows ms 0 (deep b 0) 0) r → Finished b level f c (memory_of xs ms) n r
  finished_root e h = rw e h

-- ---- the numbers that the code finds on its way
-- the rows that are lent to be read
pub part-stretch : (xs : List ℕ) (y n m : ℕ) → n ≡ m → take (row_size * y + row_size * n - row_size * y) (drop (row_size * y) xs) ≡ stretch xs y m
part-stretch xs y n m e = let q : row_size * y + row_size * n - row_size * y ≡ row_size * m = omega (arith, e) in ap (λ (k : ℕ). take k (drop (row_size * y) xs)) q

pub guard_found : (xs ms : List ℕ) (c f : ℕ) {d d' y y' : ℕ} → d ≡ d' → y ≡ y' → Guarded xs ms c f d' y' → Guarded xs ms c f d y
guard_found xs ms c f ed ey g = rw (ed, ey) g

pub child_ready : (b : Chart) (level f c : ℕ) (xs ms : List ℕ) → Static b level f c xs ms → 1 ≤ c → {d y : ℕ} → d ≡ deep b c → y ≡ top b c → Guarded xs ms c f d y → Closing b level f c (set xs count_at 0) ms
child_ready b level f c xs ms s l ed ey g = child-closing b level f c xs ms s l (guard_found xs ms c f (sym ed) (sym ey) g)

pub root_ready : (xs ms : List ℕ) (d : ℕ) → length xs ≡ scratch_size → length ms ≡ second_size → OwnRows ms 0 d 0 → Rooting (memory_of (set xs count_at 0) ms) d
root_ready xs ms d lx lm g =
    let l = length-set xs count_at 0 in
    record { completing = record { column = omega arith; own = omega (arith, lm); rows = omega (arith, l, lx, g.fit); behind = g.behind } }

pub root_found : (m : Memory) {d d' w w' : ℕ} → d ≡ d' → w ≡ w' → root_closed m d w ≡ root_closed m d' w'
root_found m ed ew = rw (ed, ew) refl

pub root_needs : (b : Chart) (level f c : ℕ) (xs ms : List ℕ) → Static b level f c xs ms → c ≡ 0 → deep b 0 + 1 ≤ last_row + 1
root_needs b level f c xs ms s e = let h = s.fits in let k : deep b c + 1 ≤ last_row + 1 = omega (arith, h) in subst (λ (z : ℕ). deep b z + 1 ≤ last_row + 1) e k
