-- The strokes of a sheet that question 15 passes, on a fair page, are finite: each number on the way from a lattice coordinate to paper has a bound, far below the largest double. Assumes nothing.
use Rattle.std.specs.Prelude.{◌≡◌, refl, ◌⊎◌, List, [], ◌∷◌, ◌++◌, Bool, ◌&&◌, ◌||◌, cond, T, eqb, ltb, ℤ, negsuc, ◌+ℤ◌, ◌-ℤ◌, length, get_or, Float}
use Rattle.std.proofs.Common.{sym, ap, ◌∙◌, subst, le_trans, le_of_eq, le_of_lt, lt_of_le_of_lt, add-mul, one-mul, mul_assoc, mul_comm, mul_right_comm, mul-le-mul, mul-le-mul_right, mul-pos, div-mul-le_self, arith, lit≤, lit<, ltb→lt, pow_pos, shl_lt}
use Rattle.std.proofs.Math.Logic.{inl, inr}
use Rattle.std.proofs.Math.Bool.{true, false}
use Rattle.std.specs.Bool.{beq}
use Prim.Native.Nat.{ℕ, zero, suc, pred, ◌+◌, ◌*◌, ◌-◌, ◌/◌, ◌%◌, ◌^◌, ◌≤◌, ◌<◌, zero-le, compare}
use Rattle.std.proofs.Math.Nat.{mul-mul-mul_comm, le_of_mul-le-mul_right, div-div-eq-div-mul, pow-zero}
use Rattle.std.proofs.Math.Decide.{ℕ_discrete}
use Rattle.std.proofs.Math.Dec.{eqb→eq}
use Rattle.std.proofs.Math.IntN.{pos}
use Rattle.std.specs.Float.Ieee.{nan, prec, emax, low, up, down, size, nearest, unlike, units, round, sum, add, mul, of_int, lt, eq, le, fits}
use Rattle.std.specs.Float.{inf, fin, binary64}
use Rattle.std.specs.Float.Ieee.Digits.{size_reaches}
use Rattle.std.specs.Float.Ieee.Exact.{HasValue, units_val}
use Rattle.std.specs.Float.Ieee.Fits.{core, round_is, nearest-le, add-fits, down_pos, and_i, and_l, and_r}
use Rattle.std.specs.Float.Ieee.Scale.{finite}
use Rattle.whole.specs.Range.{InRange}
use Rattle.whole.proofs.Laws.Whole.{whole, sum as sum_of, diff, neg-plus, neg-minus}
use Rattle.plan.specs.Pages.{from_to, least_pitch, most_pitch, least_margin, most_margin, fair}
use Rattle.plan.specs.Limits.{farthest}
use Rattle.plan.specs.Lists.{from}
use Rattle.plan.specs.Plan.{Table, Is, parent, box_width, box_depth, cells}
use Rattle.plan.specs.Fit.{Fit}
use Rattle.plan.specs.declared.Page.{Page}
use Rattle.rules.specs.Placement.{Placement, right, base}
use Rattle.corners.specs.Corners.{left}
use Rattle.corners.proofs.Laws.Corners.{left-reached}
use Rattle.ends.specs.Ended.{even, half, joined}
use Rattle.pen.specs.declared.Stroke.{Stroke}
use Rattle.pen.specs.declared.Stroke.TheVariants.{Lift}
use Rattle.pen.specs.Paper.{plotted, across, down as down-on}
use Rattle.pen.specs.Strokes.{each, move, line, box_strokes, from_end_to_end, connector_strokes, strokes}
use Rattle.pen.specs.Finite.{number, finite_stroke}
use Rattle.pen.proofs.Laws.Paper.{exact_pos, exact_neg}

-- ---- finite, and at most b in size
abbrev Under : ℕ → Float → Type 0
Under b nan = ⊥
Under b (inf s) = ⊥
Under b (fin s m e) = m * up e ≤ b * down e

under_finite : (b : ℕ) (x : Float) → Under b x → T (finite x)
under_finite b nan h = h
under_finite b (inf s) h = h
under_finite b (fin s m e) h = tt

value_under : (x : Float) (s : Bool) (a c b : ℕ) → 0 < c → HasValue x s a c → a ≤ b * c → Under b x
value_under nan s a c b p v h = v
value_under (inf t) s a c b p v h = v
value_under (fin t m e) s a c b p v h =
    le_of_mul-le-mul_right (le_trans (le_of_eq v.1) (le_trans (mul-le-mul_right (down e) h) (le_of_eq (mul_right_comm b c (down e))))) p

-- ---- a fraction of at most b, rounded, is at most 2b + 1
power_small : (w : ℕ) → 2 ^ (size w - prec binary64) ≤ w + 1
power_small w = go (ℕ_discrete (size w) 0)
  where
    go : Dec (size w ≡ 0) → 2 ^ (size w - prec binary64) ≤ w + 1
    go (yes z) = let e : size w - 53 ≡ 0 = omega arith in rw (e, pow-zero 2) (omega arith)
    go (no z) = let h = size_reaches w (size w - 53) (omega arith) in omega arith

-- l units make 1, p is the power of two that is dropped, w the fraction in units, q what is kept
kept_small : (b l w q r p : ℕ) → 0 < l → w ≤ b * l → q ≤ r + 1 → r * p ≤ w → p ≤ w + 1 → q * p ≤ (b + b + 1) * l
kept_small b l w q r p lp h k m n =
    let a : q * p ≤ r * p + p = le_trans (mul-le-mul_right p k) (le_of_eq (add-mul r 1 p ∙ ap (λ (x : ℕ). r * p + x) (one-mul p))) in
    let c = add-mul (b + b) 1 l in
    let d = add-mul b b l in
    let e = one-mul l in
    omega arith

quotient_small : (num den b l : ℕ) → 0 < den → num ≤ b * den → num * l / den ≤ b * l
quotient_small num den b l p h = le_of_mul-le-mul_right (le_trans (div-mul-le_self (num * l) den) (le_trans (mul-le-mul_right l h) (le_of_eq (mul_right_comm b den l)))) p

kept-quotient : (n den p : ℕ) → n / (den * p) * p ≤ n / den
kept-quotient n den p = subst (λ (x : ℕ). x * p ≤ n / den) (div-div-eq-div-mul n den p) (div-mul-le_self (n / den) p)

core_under : (s : Bool) (num den b l k : ℕ) → l ≡ 2 ^ low binary64 → 0 < l → k ≡ size (num * l / den) - prec binary64 → 0 < den → num ≤ b * den → b + b + 1 < 2 ^ suc (emax binary64) → Under (b + b + 1) (core binary64 s (num * l) den k)
core_under s num den b l k e lp f p h small =
    let n = num * l in
    let q = nearest (n / (den * 2 ^ k)) (compare (n % (den * 2 ^ k) * 2) (den * 2 ^ k)) in
    let a : q ≤ n / (den * 2 ^ k) + 1 = let j = nearest-le (n / (den * 2 ^ k)) (compare (n % (den * 2 ^ k) * 2) (den * 2 ^ k)) in omega arith in
    let c : 2 ^ k ≤ n / den + 1 = rw f (power_small (n / den)) in
    let d : q * 2 ^ k ≤ (b + b + 1) * l = kept_small b l (n / den) q (n / (den * 2 ^ k)) (2 ^ k) lp (quotient_small num den b l p h) a (kept-quotient n den (2 ^ k)) c in
    let top : (b + b + 1) * l < 2 ^ (low binary64 + suc (emax binary64)) = rw e (shl_lt (suc (emax binary64)) (low binary64) small) in
    let v : HasValue (units binary64 s q k) s (q * 2 ^ k) l = subst (λ (x : ℕ). HasValue (units binary64 s q k) s (q * 2 ^ k) x) (sym e) (units_val binary64 s q k (lt_of_le_of_lt d top)) in
    value_under (units binary64 s q k) s (q * 2 ^ k) l (b + b + 1) lp v d

round_under : (s : Bool) (num den b : ℕ) → 0 < den → num ≤ b * den → b + b + 1 < 2 ^ suc (emax binary64) → Under (b + b + 1) (round binary64 s num den)
round_under s num den b p h small =
    subst (λ (x : Float). Under (b + b + 1) x) (sym (round_is binary64 s num den))
    (core_under s num den b (2 ^ low binary64) (size (num * 2 ^ low binary64 / den) - prec binary64) refl (pow_pos (low binary64)) refl p h small)

-- ---- a product and a sum
mul_under : (b c : ℕ) (x y : Float) → Under b x → Under c y → b * c + b * c + 1 < 2 ^ suc (emax binary64) → Under (b * c + b * c + 1) (mul binary64 x y)
unfolding mul
mul_under b c nan y h k small = absurd h
mul_under b c (inf s) y h k small = absurd h
mul_under b c (fin s m e) nan h k small = absurd k
mul_under b c (fin s m e) (inf t) h k small = absurd k
mul_under b c (fin s m e) (fin t n d) h k small =
    round_under (unlike s t) (m * up e * (n * up d)) (down e * down d) (b * c) (mul-pos (down_pos e) (down_pos d))
    (le_trans (mul-le-mul h k) (le_of_eq (mul-mul-mul_comm b (down e) c (down d)))) small

sum-under : (s t : Bool) (a b c x y : ℕ) → 0 < c → a ≤ x * c → b ≤ y * c → x + y + (x + y) + 1 < 2 ^ suc (emax binary64) → Under (x + y + (x + y) + 1) (sum binary64 s a t b c)
unfolding sum
sum-under s t a b c x y p h k small =
    let e = add-mul x y c in
    pick (beq s t) (ltb a b) (round binary64 s (a + b) c) (round binary64 t (b - a) c) (round binary64 (s && ltb b a) (a - b) c)
    (round_under s (a + b) c (x + y) p (omega arith) small) (round_under t (b - a) c (x + y) p (omega arith) small) (round_under (s && ltb b a) (a - b) c (x + y) p (omega arith) small)
  where
    pick : (u v : Bool) (f g h : Float) → Under (x + y + (x + y) + 1) f → Under (x + y + (x + y) + 1) g → Under (x + y + (x + y) + 1) h → Under (x + y + (x + y) + 1) (cond u f (cond v g h))
    pick true v f g h i j k = i
    pick false true f g h i j k = j
    pick false false f g h i j k = k

add-under : (b c : ℕ) (x y : Float) → Under b x → Under c y → b + c + (b + c) + 1 < 2 ^ suc (emax binary64) → Under (b + c + (b + c) + 1) (add binary64 x y)
unfolding add
add-under b c nan y h k small = absurd h
add-under b c (inf s) y h k small = absurd h
add-under b c (fin s m e) nan h k small = absurd k
add-under b c (fin s m e) (inf t) h k small = absurd k
add-under b c (fin s m e) (fin t n d) h k small =
    sum-under s t (m * up e * down d) (n * up d * down e) (down e * down d) b c (mul-pos (down_pos e) (down_pos d))
    (le_trans (mul-le-mul_right (down d) h) (le_of_eq (mul_assoc b (down e) (down d))))
    (le_trans (mul-le-mul_right (down e) k) (le_of_eq (mul_assoc c (down d) (down e) ∙ ap (λ (x : ℕ). c * x) (mul_comm (down d) (down e))))) small

-- ---- from a lattice coordinate to paper
-- the most that a lattice coordinate comes to, less the least x
abbrev far : ℕ
far = 1048576

of_int_under : (z : ℤ) → InRange far z → Under far (of_int binary64 z)
of_int_under (pos n) w =
    let h : n ≤ far = omega (whole, w.high) in
    value_under (of_int binary64 (pos n)) false n 1 far (lit< tt) (exact_pos n (lt_of_le_of_lt h (lit< tt))) (omega arith)
of_int_under (negsuc n) w =
    let h : suc n ≤ far = omega (whole, w.low, neg-plus (pos far), neg-minus (pos far)) in
    value_under (of_int binary64 (negsuc n)) true (suc n) 1 far (lit< tt) (exact_neg n (lt_of_le_of_lt h (lit< tt))) (omega arith)

-- a float from one that is not negative to another
module _ (ml mh : ℕ) (el eh : ℤ) (b : ℕ) (h : mh * up eh ≤ b * down eh) where
  cross : (m : ℕ) (e : ℤ) → m * up e * down eh ≤ mh * up eh * down e → m * up e ≤ b * down e
  cross m e k = le_of_mul-le-mul_right (le_trans k (le_trans (mul-le-mul_right (down e) h) (le_of_eq (mul_right_comm b (down eh) (down e))))) (down_pos eh)

  or_read : (p q : Bool) → T (p || q) → T p ⊎ T q
  or_read true q k = inl tt
  or_read false q k = inr k

  from_to-under : (x : Float) → T (from_to (fin false ml el) (fin false mh eh) x) → Under b x
  unfolding from_to le lt eq
  from_to-under nan k = k
  from_to-under (inf true) k = and_l (le (fin false ml el) (inf true)) (le (inf true) (fin false mh eh)) k
  from_to-under (inf false) k = and_r (le (fin false ml el) (inf false)) (le (inf false) (fin false mh eh)) k
  from_to-under (fin false m e) k =
      elim (or_read (ltb (m * up e * down eh) (mh * up eh * down e)) _ (and_r (le (fin false ml el) (fin false m e)) _ k)) [
        | inl j ↦ cross m e (le_of_lt (ltb→lt (m * up e * down eh) (mh * up eh * down e) j))
        | inr j ↦ cross m e (le_of_eq (eqb→eq (m * up e * down eh) (mh * up eh * down e) (and_l (eqb (m * up e * down eh) (mh * up eh * down e)) _ j)))
      ]
  from_to-under (fin true m e) k =
      let j = and_l (le (fin false ml el) (fin true m e)) _ k in
      let i = eqb→eq (ml * up el * down e) (m * up e * down el) (and_l (eqb (ml * up el * down e) (m * up e * down el)) _ j) in
      let o = eqb→eq (ml * up el * down e) 0 (and_r (eqb (ml * up el * down e) (m * up e * down el)) _ j) in
      le_of_mul-le-mul_right (le_trans (le_of_eq (sym i ∙ o)) (zero-le)) (down_pos el)

plotted-number : (z : ℤ) (p m : Float) → InRange far z → Under 16 p → Under 100 m → T (number (plotted z p m))
unfolding plotted number
plotted-number z p m w h k =
    let a = mul_under far 16 (of_int binary64 z) p (of_int_under z w) h (lit< tt) in
    let b = add-under (far * 16 + far * 16 + 1) 100 (mul binary64 (of_int binary64 z) p) m a k (lit< tt) in
    let r = add binary64 (mul binary64 (of_int binary64 z) p) m in
    and_i (fits binary64 r) (finite r) (add-fits binary64 (mul binary64 (of_int binary64 z) p) m) (under_finite (far * 16 + far * 16 + 1 + 100 + (far * 16 + far * 16 + 1 + 100) + 1) r b)

-- ---- each stroke
abbrev All : List Stroke → Type 0
All [] = Unit {0}
All (x ∷ l) = T (finite_stroke x) × All l

all-on : (l k : List Stroke) → All l → All k → All (l ++ k)
all-on [] k h g = g
all-on (x ∷ l) k h g = (h.0, all-on l k h.1 g)

all-each : (f : ℕ → List Stroke) (k d : ℕ) → ((a : ℕ) → k ≤ a → a < k + d → All (f a)) → All (each f (from k d))
unfolding each from
all-each f k zero h = tt
all-each f k (suc d) h = all-on (f k) (each f (from (suc k) d)) (h k (omega arith) (omega arith)) (all-each f (suc k) d (λ a i j. h a (omega arith) (omega arith)))

all_get : (l : List Stroke) → All l → (s : ℕ) → T (finite_stroke (get_or l s Lift))
unfolding finite_stroke
all_get [] h s = tt
all_get (x ∷ l) h zero = h.0
all_get (x ∷ l) h (suc s) = all_get l h.1 s

-- a coordinate moved on by at most 1,023, less another or not
across-far : (x l : ℤ) (by : ℕ) → InRange farthest x → InRange farthest l → by ≤ 1023 → InRange far (x +ℤ pos by -ℤ l)
across-far x l by h k m =
    record {
      low = omega (whole, h.low, k.high, neg-plus (pos farthest), neg-minus (pos farthest), neg-plus (pos far), neg-minus (pos far), sum_of x (pos by), diff (x +ℤ pos by) l);
      high = omega (whole, h.high, k.low, neg-plus (pos farthest), neg-minus (pos farthest), sum_of x (pos by), diff (x +ℤ pos by) l);
    }

across-near : (x l : ℤ) → InRange farthest x → InRange farthest l → InRange far (x -ℤ l)
across-near x l h k =
    record {
      low = omega (whole, h.low, k.high, neg-plus (pos farthest), neg-minus (pos farthest), neg-plus (pos far), neg-minus (pos far), diff x l);
      high = omega (whole, h.high, k.low, neg-plus (pos farthest), neg-minus (pos farthest), diff x l);
    }

down-far : (y : ℤ) (by : ℕ) → InRange farthest y → by ≤ 1023 → InRange far (y +ℤ pos by)
down-far y by h m =
    record {
      low = omega (whole, h.low, neg-plus (pos farthest), neg-minus (pos farthest), neg-plus (pos far), neg-minus (pos far), sum_of y (pos by));
      high = omega (whole, h.high, sum_of y (pos by));
    }

down-near : (y : ℤ) → InRange farthest y → InRange far y
down-near y h = record { low = omega (whole, h.low, neg-plus (pos farthest), neg-minus (pos farthest), neg-plus (pos far), neg-minus (pos far)); high = omega (whole, h.high) }

half_small : (w : ℕ) → w ≤ 1023 → half w ≤ 1023
unfolding half
half_small w h = go (even w) (even (w / 2))
  where
    go : (b c : Bool) → cond b (w / 2) (cond c (w / 2) (w / 2 + 1)) ≤ 1023
    go true c = omega arith
    go false true = omega arith
    go false false = omega arith

module _ (t : Table) (p : Placement) (g : Page) (fit : Fit t) (x : (c : ℕ) → Is t c → InRange farthest (p.x c)) (y : (c : ℕ) → Is t c → InRange farthest (p.y c)) (fine : T (fair g)) where
  pitch : Under 16 g.pitch
  unfolding fair
  pitch = from_to-under 1 1 (negsuc 1) (pos 4) 16 (lit≤ tt) g.pitch (and_l (from_to least_pitch most_pitch g.pitch) (from_to least_margin most_margin g.margin_x && from_to least_margin most_margin g.margin_y) fine)

  margins : T (from_to least_margin most_margin g.margin_x && from_to least_margin most_margin g.margin_y)
  unfolding fair
  margins = and_r (from_to least_pitch most_pitch g.pitch) (from_to least_margin most_margin g.margin_x && from_to least_margin most_margin g.margin_y) fine

  margin_x : Under 100 g.margin_x
  margin_x = from_to-under 0 25 (pos 0) (pos 2) 100 (lit≤ tt) g.margin_x (and_l (from_to least_margin most_margin g.margin_x) (from_to least_margin most_margin g.margin_y) margins)

  margin_y : Under 100 g.margin_y
  margin_y = from_to-under 0 25 (pos 0) (pos 2) 100 (lit≤ tt) g.margin_y (and_r (from_to least_margin most_margin g.margin_x) (from_to least_margin most_margin g.margin_y) margins)

  least_x : InRange farthest (left t p)
  least_x = let r = left-reached t p fit.some_cell in rw r.there (x r.cell r.of)

  across-number : (z : ℤ) → InRange far (z -ℤ left t p) → T (number (across t p g z))
  unfolding across
  across-number z w = plotted-number (z -ℤ left t p) g.pitch g.margin_x w pitch margin_x

  down-number : (z : ℤ) → InRange far z → T (number (down-on t p g z))
  unfolding down-on
  down-number z w = plotted-number z g.pitch g.margin_y w pitch margin_y

  move_finite : (u v : ℤ) → InRange far (u -ℤ left t p) → InRange far v → T (finite_stroke (move t p g u v))
  unfolding move finite_stroke
  move_finite u v h k = and_i (number (across t p g u)) (number (down-on t p g v)) (across-number u h) (down-number v k)

  line_finite : (u v : ℤ) → InRange far (u -ℤ left t p) → InRange far v → T (finite_stroke (line t p g u v))
  unfolding line finite_stroke
  line_finite u v h k = and_i (number (across t p g u)) (number (down-on t p g v)) (across-number u h) (down-number v k)

  lift_finite : T (finite_stroke Lift)
  unfolding finite_stroke
  lift_finite = tt

  box_finite : (c : ℕ) → Is t c → All (box_strokes t p g c)
  unfolding box_strokes right base
  box_finite c i =
      let w = (fit.wide c i).1 in
      let d = (fit.deep c i).1 in
      let l = across-near (p.x c) (left t p) (x c i) least_x in
      let r = across-far (p.x c) (left t p) (box_width t c) (x c i) least_x w in
      let u = down-near (p.y c) (y c i) in
      let b = down-far (p.y c) (box_depth t c) (y c i) (omega arith) in
      let upper_left = line_finite (p.x c) (p.y c) l u in
      let upper_right = line_finite (p.x c +ℤ pos (box_width t c)) (p.y c) r u in
      let lower_right = line_finite (p.x c +ℤ pos (box_width t c)) (p.y c +ℤ pos (box_depth t c)) r b in
      let lower_left = line_finite (p.x c) (p.y c +ℤ pos (box_depth t c)) l b in
      (move_finite (p.x c) (p.y c) l u, (upper_right, (lower_right, (lower_left, (upper_left, (lift_finite, tt))))))

  connector_finite : (c : ℕ) → Is t c → Is t (parent t c) → All (connector_strokes t p g c)
  unfolding connector_strokes from_end_to_end joined
  connector_finite c i j =
      let a = parent t c in
      let from-parent = move_finite (p.x a +ℤ pos (half (box_width t a))) (p.y a +ℤ pos (box_depth t a)) (across-far (p.x a) (left t p) (half (box_width t a)) (x a j) least_x (half_small (box_width t a) (fit.wide a j).1)) (down-far (p.y a) (box_depth t a) (y a j) (let d = (fit.deep a j).1 in omega arith)) in
      let to-child = line_finite (p.x c +ℤ pos (half (box_width t c))) (p.y c) (across-far (p.x c) (left t p) (half (box_width t c)) (x c i) least_x (half_small (box_width t c) (fit.wide c i).1)) (down-near (p.y c) (y c i)) in
      (from-parent, (to-child, (lift_finite, tt)))

  pub strokes_finite : (s : ℕ) → T (finite_stroke (get_or (strokes t p g) s Lift))
  unfolding strokes cells
  strokes_finite =
      all_get (each (box_strokes t p g) (from 0 (length t)) ++ each (connector_strokes t p g) (from 1 (pred (length t))))
      (all-on (each (box_strokes t p g) (from 0 (length t))) (each (connector_strokes t p g) (from 1 (pred (length t))))
      (all-each (box_strokes t p g) 0 (length t) (λ a i j. box_finite a (omega arith)))
      (all-each (connector_strokes t p g) 1 (pred (length t)) (λ a i j. let n = fit.some_cell in let m = fit.sound a i (omega arith) in connector_finite a (omega arith) (omega arith))))
