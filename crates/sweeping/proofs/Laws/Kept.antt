-- What the pass and the sweep find out is enough: no pair of cells breaks a rule. Assumes nothing.
use Rattle.std.specs.Prelude.{◌≡◌, refl, Bool, length, get_or}
use Rattle.std.proofs.Common.{sym, ◌∙◌, ap, inl, inr, arith}
use Rattle.std.proofs.Math.Path.{subst}
use Prim.Native.Nat.{ℕ, zero, suc, pred, ◌+◌, ◌≤◌, ◌<◌, max}
use Rattle.std.proofs.Math.Decide.{dec_le, dec_lt}
use Rattle.std.proofs.Math.Dec.{T}
use Rattle.whole.specs.Says.{Says}
use Rattle.whole.proofs.Laws.Says.{both, whenever, says_le, says_lt, says_eq, holds}
use Rattle.plan.specs.Limits.{farthest}
use Rattle.plan.specs.Lists.{At}
use Rattle.plan.proofs.Laws.Lists.{at_less, at_get_or, Some, says_some, Ahead}
use Rattle.plan.specs.Plan.{Table, Is, Sound, kind, children, child, appointed, path, within, next, earlier, Child}
use Rattle.plan.proofs.Laws.Plan.{child-read, appointed-at, appointed-within}
use Rattle.plan.proofs.Laws.Paths.{below_split, within-below, within-self, child_less}
use Rattle.plan.proofs.Laws.Siblings.{Earlier, says_earlier, Neighbours, says_next}
use Rattle.rules.specs.Placement.{Placement}
use Rattle.rules.specs.Tests.{after_one, before_one}
use Rattle.spans.proofs.Laws.Spans.{earlier-is, after_one-is, before_one-is}
use Rattle.looking_sights.specs.declared.View.{View}
use Rattle.looking_sights.specs.Sights.{Sights}
use Rattle.looking.specs.Passes.{pass1, pass2, pass3, pass3_ends, pass3_starts, pass4, pass4_box, pass4_stem, pass5, passes}
use Rattle.looking_sights.specs.Sees.{Sees}
use Rattle.sweeping.specs.Swept.{Alone, top, Extremes, Parted, Beside, Fills, Clear}

-- ---- what each test says
pub says1 : (a b : ℕ) (v : View) → Says (pass1 a b v) (a ≡ b → (v.y ≡ v.due) × (a ≡ 0 → v.x ≡ farthest))
unfolding pass1
says1 a b v = whenever (says_eq a b) (both (says_eq v.y v.due) (whenever (says_eq a 0) (says_eq v.x farthest)))

pub says2 : (a : ℕ) (v w : View) → Says (pass2 a v w) ((w.parent ≡ a) × (w.nth ≡ v.middle) → v.x ≡ w.x)
unfolding pass2
says2 a v w = whenever (both (says_eq w.parent a) (says_eq w.nth v.middle)) (says_eq v.x w.x)

abbrev pub Ends : View → View → Type 0
Ends v w = (w.from ≤ v.first) × (v.first < w.first) → v.right < w.x

abbrev pub Starts : View → View → Type 0
Starts v w = (v.end ≤ w.first) × (w.first < v.to) → v.x < w.x

pub says3 : (v w : View) → Says (pass3 v w) (Ends v w × Starts v w)
unfolding pass3 pass3_ends pass3_starts
says3 v w =
    both (whenever (both (says_le w.from v.first) (says_lt v.first w.first)) (says_lt v.right w.x))
    (whenever (both (says_le v.end w.first) (says_lt w.first v.to)) (says_lt v.x w.x))

abbrev pub BoxApart : View → View → Type 0
BoxApart v w = (v.y ≤ w.bottom) × (w.y ≤ v.base) → v.right < w.x

abbrev pub StemApart : View → View → Type 0
StemApart v w = (v.base < v.bottom) × ((v.base < w.bottom) × (w.y ≤ v.bottom)) → v.x < w.x

pub says4 : (v w : View) → Says (pass4 v w) (v.end ≤ w.first → BoxApart v w × StemApart v w)
unfolding pass4 pass4_box pass4_stem
says4 v w =
    whenever (says_le v.end w.first)
    (both (whenever (both (says_le v.y w.bottom) (says_le w.y v.base)) (says_lt v.right w.x))
    (whenever (both (says_lt v.base v.bottom) (both (says_lt v.base w.bottom) (says_le w.y v.bottom))) (says_lt v.x w.x)))

pub says5 : (al : ℕ) (v w : View) → Says (pass5 al v w) (v.end ≤ w.first → v.right + 1 ≤ w.x + al)
unfolding pass5
says5 al v w = whenever (says_le v.end w.first) (says_le (v.right + 1) (w.x + al))

module _ (t : Table) (p : Placement) (s : Sights) (sound : Sound t) (g : Sees t p s) where
  -- ---- S1 and S2
  module _ (h : Alone s (length t)) where
    level : (c : ℕ) → Is t c → (s c).y ≡ (s c).due
    level c i = (holds (says1 c c (s c)) (h.each c i).one refl).0

    root : (c : ℕ) → Is t c → c ≡ 0 → (s c).x ≡ farthest
    root c i = (holds (says1 c c (s c)) (h.each c i).one refl).1

    keeps1 : (a b : ℕ) → Is t a → T (pass1 a b (s a))
    keeps1 a b i = (says1 a b (s a)).show (λ e. (level a i, root a i))

    flush : (c : ℕ) → 1 ≤ c → Is t c → (s c).nth ≡ (s (s c).parent).middle → (s (s c).parent).x ≡ (s c).x
    flush c l i e = holds (says2 (s c).parent (s (s c).parent) (s c)) ((h.each c i).two l) (refl, e)

    two : (a b : ℕ) → Is t a → Is t b → (s b).parent ≡ a → (s b).nth ≡ (s a).middle → (s a).x ≡ (s b).x
    two a zero i j e q = absurd (omega (arith, g.counted.root, g.middles a i, appointed-within (kind t a) (g.many a)))
    two a (suc b) i j e q = rw (← e) (flush (suc b) (omega arith) j (rw (← e) at q))

    keeps2 : (a b : ℕ) → Is t a → Is t b → T (pass2 a (s a) (s b))
    keeps2 a b i j = (says2 a (s a) (s b)).show (λ k. two a b i j k.0 k.1)

  -- ---- S3 and S5
  module _ (al : ℕ) (high low : ℕ → ℕ) (x : Extremes t s high low) (h : Beside s (length t) al high low) where
    beside : (c i u v : ℕ) → At (children t c) i u → At (children t c) (suc i) v → Parted s al high low u v
    beside c i u v k m =
        let iu : Is t u = (child-read t c i u k).is in
        let iv : Is t v = (child-read t c (suc i) v m).is in
        (h.each v iv).each u iu (sym (g.spans.elder c i u v k m))
        (λ q. omega (arith, g.spans.beside c i u v k m, g.spans.some u iu, ap (λ (z : ℕ). (s z).first) q))

    neighbours : (u v : ℕ) → T (next t u v) → Parted s al high low u v
    neighbours u v k = let e : Neighbours t u v = (says_next t u v).read k in beside e.c e.order.i u v e.order.first e.order.second

    ends : (a b : ℕ) → Is t a → Is t b → Ends (s a) (s b)
    unfolding after_one within
    ends a b i j k =
        let e : T (after_one t a b) = subst (λ (z : Bool). T z) (after_one-is t sound g.spans a b i j) ((both (says_le (s b).from (s a).first) (says_lt (s a).first (s b).first)).show k) in
        let m : Some (λ u. next t u b) (path t a) = (says_some (λ u. next t u b) (path t a)).read e in
        omega (arith, (neighbours m.at b m.passes).ends, x.rights m.at a i m.there)

    starts : (a b : ℕ) → Is t a → Is t b → Starts (s a) (s b)
    unfolding before_one within
    starts a b i j k =
        let e : T (before_one t a b) = subst (λ (z : Bool). T z) (before_one-is t sound g.spans a b i j) ((both (says_le (s a).end (s b).first) (says_lt (s b).first (s a).to)).show k) in
        let m : Some (λ v. next t a v) (path t b) = (says_some (λ v. next t a v) (path t b)).read e in
        omega (arith, (neighbours a m.at m.passes).starts, x.lefts m.at b j m.there)

    keeps3 : (a b : ℕ) → Is t a → Is t b → T (pass3 (s a) (s b))
    keeps3 a b i j = (says3 (s a) (s b)).show (ends a b i j, starts a b i j)

    -- an earlier sibling's x is less than every x at or below a later one
    far : (c i j u v : ℕ) → i < j → At (children t c) i u → At (children t c) j v → (s u).x + low v < top
    far c i zero u v l k m = absurd (omega arith)
    far c i (suc j) u v l k m = go (dec_lt i j) (far c i j u (get_or (children t c) j 0))
      where
        w : ℕ
        w = get_or (children t c) j 0

        at-w : At (children t c) j w
        at-w = at_get_or (children t c) j 0 (omega (arith, at_less (children t c) (suc j) v m))

        go : Dec (i < j) → (i < j → At (children t c) i u → At (children t c) j w → (s u).x + low w < top) → (s u).x + low v < top
        go (yes d) r = omega (arith, r d k at-w, x.lefts w w (child-read t c j w at-w).is (within-self t sound w), (beside c j w v at-w m).starts)
        go (no d) r = let e : i ≡ j = omega arith in (beside c i u v k (rw e m)).starts

    five : (a b : ℕ) → Is t a → Is t b → (s a).end ≤ (s b).first → (s a).right + 1 ≤ (s b).x + al
    five a b i j l =
        let k : T (earlier t a b) = subst (λ (z : Bool). T z) (earlier-is t sound g.spans a b i j) ((says_le (s a).end (s b).first).show l) in
        go ((says_earlier t a b).read k)
      where
        go : Earlier t a b → (s a).right + 1 ≤ (s b).x + al
        go e = step (dec_lt (suc o.i) o.j)
          where
            o : Ahead (children t e.elder.c) e.p e.q
            o = e.elder.order

            u : ℕ
            u = get_or (children t e.elder.c) (suc o.i) 0

            step : Dec (suc o.i < o.j) → (s a).right + 1 ≤ (s b).x + al
            step (yes d) =
                let m : At (children t e.elder.c) (suc o.i) u = at_get_or (children t e.elder.c) (suc o.i) 0 (omega (arith, at_less (children t e.elder.c) o.j e.q o.second)) in
                omega (arith, x.rights e.p a i e.a_under, x.lefts e.q b j e.b_under, (beside e.elder.c o.i e.p u o.first m).ends, far e.elder.c (suc o.i) o.j u e.q d m o.second)
            step (no d) =
                let q : o.j ≡ suc o.i = omega (arith, o.less) in
                omega (arith, x.rights e.p a i e.a_under, x.lefts e.q b j e.b_under, (beside e.elder.c o.i e.p e.q o.first (rw q at o.second)).overlap)

    keeps5 : (a b : ℕ) → Is t a → Is t b → T (pass5 al (s a) (s b))
    keeps5 a b i j = (says5 al (s a) (s b)).show (five a b i j)

  -- ---- S4
  y-base : (c : ℕ) → Is t c → (s c).y ≤ (s c).base
  y-base c i = omega (arith, g.bases c i)

  base-bottom : (c : ℕ) → Is t c → (s c).base ≤ (s c).bottom
  base-bottom c i = g.bottoms.all c c i (within-self t sound c)

  module _ (h : Alone s (length t)) where
    -- m is the appointed child of c
    record Heir (c m : ℕ) : Type 0 where
      low : 1 ≤ m
      less : c < m
      is : Is t m
      above : (s m).parent ≡ c
      nth_is : (s m).nth ≡ (s c).middle
      inside : ((s c).first < (s m).first) × ((s m).end ≤ (s c).end)
      top_is : (s m).y ≡ (s c).base + 1
      x_is : (s c).x ≡ (s m).x

    bears : (c : ℕ) → Is t c → (s c).base < (s c).bottom → 1 ≤ length (children t c)
    bears c i l =
        let r = g.bottoms.one c i in
        elim (below_split (within-below t sound c r.cell r.is r.under)) [
          | inl e ↦ absurd (omega (arith, r.so, ap (λ (z : ℕ). (s z).base) e))
          | inr (k, q, m, _) ↦ omega (arith, at_less (children t c) k q m)
        ]

    heir : (c : ℕ) → Is t c → (s c).base < (s c).bottom → (m : ℕ) × Heir c m
    heir c i l = (
      m,
      record {
        low = o.low;
        less = (child_less t sound c _ m at).0;
        is = o.is;
        above = above;
        nth_is = nth_is;
        inside = g.spans.under c _ m at;
        top_is = level h m o.is ∙ g.dues.each m c o;
        x_is = two h c m i o.is above nth_is;
      },
    )
      where
        some : 1 ≤ length (children t c)
        some = bears c i l

        m : ℕ
        m = child t c (appointed (kind t c) (length (children t c)))

        at : At (children t c) (pred (appointed (kind t c) (length (children t c)))) m
        at = appointed-at t c some

        o : Child t c m
        o = child-read t c _ m at

        above : (s m).parent ≡ c
        above = g.parents m o.is ∙ o.of

        nth_is : (s m).nth ≡ (s c).middle
        nth_is =
            let e : appointed (kind t c) (g.many c) ≡ appointed (kind t c) (length (children t c)) = ap (appointed (kind t c)) (g.counted.all c i) in
            omega (arith, g.counted.placed c _ m at, g.middles c i, e, appointed-within (kind t c) (length (children t c)))

    -- in each row of c, one at or below c whose x is c's
    record Holder (c y : ℕ) : Type 0 where
      cell : ℕ
      is : Is t cell
      to : ℕ
      fills : Fills s cell y to
      reaches : (s c).x ≤ to
      same : (s cell).x ≡ (s c).x
      low : (s c).first ≤ (s cell).first
      high : (s cell).first < (s c).end

    hold : (k c : ℕ) → length t ≤ c + k → Is t c → (y : ℕ) → (s c).y ≤ y → y ≤ (s c).bottom → Holder c y
    hold zero c f i y l m = absurd (omega arith)
    hold (suc k) c f i y l m = go (dec_le y (s c).base) (hold k)
      where
        own : y ≤ (s c).base → Holder c y
        own d = record { cell = c; is = i; to = (s c).right; fills = Fills.box l d refl; reaches = omega (arith, g.rights c i); same = refl; low = omega arith; high = g.spans.some c i }

        below : (s c).base < y → (d : ℕ) → Heir c d → Dec (y ≤ (s d).bottom) → ((c : ℕ) → length t ≤ c + k → Is t c → (y : ℕ) → (s c).y ≤ y → y ≤ (s c).bottom → Holder c y) → Holder c y
        below b d q (yes e) r =
            let w = r d (omega (arith, q.less)) q.is y (omega (arith, q.top_is)) e in
            record {
              cell = w.cell;
              is = w.is;
              to = w.to;
              fills = w.fills;
              reaches = omega (arith, w.reaches, q.x_is);
              same = w.same ∙ sym q.x_is;
              low = omega (arith, w.low, q.inside.0);
              high = omega (arith, w.high, q.inside.1);
            }
        below b d q (no e) r = record {
          cell = d;
          is = q.is;
          to = (s d).x;
          fills = Fills.hang q.low (rw q.above q.nth_is) (omega arith) (rw q.above m) refl;
          reaches = omega (arith, q.x_is);
          same = sym q.x_is;
          low = omega (arith, q.inside.0);
          high = omega (arith, q.inside.1, g.spans.some d q.is);
        }

        go : Dec (y ≤ (s c).base) → ((c : ℕ) → length t ≤ c + k → Is t c → (y : ℕ) → (s c).y ≤ y → y ≤ (s c).bottom → Holder c y) → Holder c y
        go (yes d) r = own d
        go (no d) r = let (q, w) = heir c i (omega arith) in below (omega arith) q w (dec_le y (s q).bottom) r

    module _ (z : Clear s (length t)) (a b : ℕ) (i : Is t a) (j : Is t b) (l : (s a).end ≤ (s b).first) where
      box_apart : BoxApart (s a) (s b)
      box_apart k =
          let y = max (s a).y (s b).y in
          let w : Holder b y = hold (length t) b (omega arith) j y (omega arith) (omega (arith, k.0, y-base b j, base-bottom b j)) in
          let r = z.free a w.cell y (s a).right w.to i w.is (omega (arith, g.spans.some a i, w.low)) (Fills.box (omega arith) (omega (arith, k.1, y-base a i)) refl) w.fills in
          omega (arith, r, w.same)

      stem_apart : StemApart (s a) (s b)
      stem_apart k =
          let y = max ((s a).base + 1) (s b).y in
          let v : Holder a y = hold (length t) a (omega arith) i y (omega (arith, y-base a i)) (omega (arith, k.0, k.1.1)) in
          let w : Holder b y = hold (length t) b (omega arith) j y (omega arith) (omega (arith, k.1.0, y-base b j, base-bottom b j)) in
          let r = z.free v.cell w.cell y v.to w.to v.is w.is (omega (arith, v.high, w.low)) v.fills w.fills in
          omega (arith, r, w.same, v.reaches)

    keeps4 : Clear s (length t) → (a b : ℕ) → Is t a → Is t b → T (pass4 (s a) (s b))
    keeps4 z a b i j = (says4 (s a) (s b)).show (λ l. (box_apart z a b i j l, stem_apart z a b i j l))

  -- ---- all five
  module _ (al : ℕ) (high low : ℕ → ℕ) (h : Alone s (length t)) (x : Extremes t s high low) (b : Beside s (length t) al high low) (z : Clear s (length t)) where
    pub all : (r a b : ℕ) → 1 ≤ r → r ≤ 5 → Is t a → Is t b → T (passes al r a b (s a) (s b))
    unfolding passes
    all zero c d l m i j = tt
    all (suc zero) c d l m i j = keeps1 h c d i
    all (suc (suc zero)) c d l m i j = keeps2 h c d i j
    all (suc (suc (suc zero))) c d l m i j = keeps3 al high low x b c d i j
    all (suc (suc (suc (suc zero)))) c d l m i j = keeps4 h z c d i j
    all (suc (suc (suc (suc (suc zero))))) c d l m i j = keeps5 al high low x b c d i j
    all (suc (suc (suc (suc (suc (suc r)))))) c d l m i j = tt
