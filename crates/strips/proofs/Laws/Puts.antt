-- What each step of the code adds to the picture. Assumes nothing.
use Rattle.std.specs.Prelude.{◌≡◌, refl, List, [], ◌∷◌, Bool, false, ◌&&◌, ◌||◌, ◌⊎◌, ℕ, zero, suc, ◌+◌, ◌-◌, ◌/◌, ◌%◌, ◌≤◌, ◌<◌, min, max, eqb, leb, ltb, length, set, replicate}
use Rattle.std.proofs.Common.{sym, ◌∙◌, ap, inl, inr, arith, length-set}
use Rattle.std.proofs.lemmas.List.{get_or-replicate, length-replicate}
use Rattle.std.proofs.Math.Decide.{ℕ_discrete}
use Rattle.std.specs.Int.Bits.{bit_and}
use Rattle.whole.proofs.Laws.Says.{says_lt, that_is, both, either, says_le, says_eq, same_test, is_false}
use Rattle.plan.specs.Limits.{between}
use Rattle.raster.specs.Strip.{pack, byte}
use Rattle.strips.proofs.Laws.Bits.{and_pack}
use Rattle.strips.specs.Picture.{Painted, Paints, or_at, column, boxed}
use Rattle.strips.proofs.Laws.Paint.{paints_none, paints_on, paints_same, paints_or, paints_full}
use Rattle.strips.proofs.Laws.Edges.{one_place, run_inside, run-across, shift-inside, shift_cut, shift_out, one_shift, one_out, edge-above, edge-below, edge-top, edge-base, edge_sides}

set_past : (bs : List ℕ) (i v : ℕ) → length bs ≤ i → set bs i v ≡ bs
set_past [] i v h = refl
set_past (b ∷ bs) zero v h = absurd (omega arith)
set_past (b ∷ bs) (suc i) v h = ap (λ (l : List ℕ). b ∷ l) (set_past bs i v (omega arith))

pub or_past : (bs : List ℕ) (i m : ℕ) → length bs ≤ i → bs ≡ or_at bs i m
unfolding or_at
or_past bs i m h = sym (set_past bs i _ h)

pub and_of : (a b : ℕ) (f g : ℕ → Bool) → a ≡ byte f → b ≡ byte g → bit_and a b ≡ byte (λ i. f i && g i)
and_of a b f g d e = rw (d, e) (and_pack f g 8)

-- ---- zeros
pub cleared : (bs cs : List ℕ) → cs ≡ replicate (length bs) 0 → Painted cs (length bs) (λ k j. false)
unfolding pack
cleared bs cs e = rw e (record { long = length-replicate (length bs) 0; at = λ k l. get_or-replicate (length bs) k 0 0 l })

-- ---- filled, from byte a to before byte k
pub record Filled (bs₀ bs : List ℕ) (a stop k : ℕ) : Type 0 where
  pub long : length bs ≡ length bs₀
  pub from : a ≤ k
  pub to : k ≤ max a stop
  pub adds : Paints bs₀ bs (λ i j. leb a i && ltb i k)

pub filled-starts : (bs : List ℕ) (a stop : ℕ) → Filled bs bs a stop a
filled-starts bs a stop =
    record {
      long = refl;
      from = omega arith;
      to = omega arith;
      adds = paints_same (paints_none bs) (λ i j h k. sym (is_false (both (says_le a i) (says_lt i a)) (λ q. omega (arith, q.0, q.1))));
    }

grows : (a k i : ℕ) → a ≤ k → (leb a i && ltb i k || eqb i k) ≡ (leb a i && ltb i (k + 1))
grows a k i h =
    same_test (either (both (says_le a i) (says_lt i k)) (says_eq i k)) (that_is (both (says_le a i) (says_lt i (k + 1))) onto back)
  where
    back : ((a ≤ i) × (i < k)) ⊎ (i ≡ k) → (a ≤ i) × (i < k + 1)
    back (inl q) = (omega (arith, q.0), omega (arith, q.1))
    back (inr e) = (omega arith, omega arith)

    onto : (a ≤ i) × (i < k + 1) → ((a ≤ i) × (i < k)) ⊎ (i ≡ k)
    onto q = go (ℕ_discrete i k)
      where
        go : Dec (i ≡ k) → ((a ≤ i) × (i < k)) ⊎ (i ≡ k)
        go (yes e) = inr e
        go (no e) = inl (q.0, omega (arith, q.1))

pub filled-turns : {bs₀ bs : List ℕ} {a stop k : ℕ} → Filled bs₀ bs a stop k → k < stop → Filled bs₀ (set bs k 255) a stop (k + 1)
filled-turns {bs₀} {bs} {a} {stop} {k} f h =
    record {
      long = length-set bs k 255 ∙ f.long;
      from = omega (arith, f.from);
      to = omega arith;
      adds = paints_same (paints_on f.adds (paints_full bs k)) (λ i j l m. grows a k i f.from);
    }

pub filled-ends : {bs₀ bs : List ℕ} {a b stop k : ℕ} → Filled bs₀ bs a stop k → stop ≡ min b (length bs₀) → a ≤ b → stop ≤ k → Paints bs₀ bs (λ i j. leb a i && ltb i b)
filled-ends {bs₀} {bs} {a} {b} {stop} {k} f e h m =
    paints_same f.adds
    (λ i j l n.
    same_test (both (says_le a i) (says_lt i k))
    (that_is (both (says_le a i) (says_lt i b)) (λ q. (q.0, omega (arith, q.0, q.1, f.to, f.from))) (λ q. (q.0, omega (arith, q.0, q.1, f.to, f.from)))))

-- ---- one column, and a run
pub one-put : (bs cs : List ℕ) (k p m : ℕ) → p ≡ k % 8 → m ≡ byte (λ i. eqb i p) → cs ≡ or_at bs (k / 8) m → Paints bs cs (λ i j. eqb (column i j) k)
one-put bs cs k p m e d h =
    rw h (paints_same (paints_or bs (k / 8) m (λ i. eqb i p) d) (λ i j l n. rw e (one_place k i j n)))

pub run_in_one : (bs cs : List ℕ) (lo hi p q m : ℕ) → lo / 8 ≡ hi / 8 → p ≡ lo % 8 → q ≡ hi % 8 → m ≡ byte (λ i. leb p i && leb i q) → cs ≡ or_at bs (lo / 8) m
    → Paints bs cs (λ i j. between lo hi (column i j))
run_in_one bs cs lo hi p q m s e f d h =
    rw h (paints_same (paints_or bs (lo / 8) m (λ i. leb p i && leb i q) d) (λ i j l n. rw (e, f) (run_inside lo hi i j n s)))

pub run_in_more : (bs cs ds es : List ℕ) (lo hi p q m n : ℕ) → ¬ (lo / 8 ≡ hi / 8) → lo ≤ hi → p ≡ lo % 8 → q ≡ hi % 8 → m ≡ byte (λ i. leb p i) → n ≡ byte (λ i. leb i q)
    → cs ≡ or_at bs (lo / 8) m → Paints cs ds (λ i j. leb (lo / 8 + 1) i && ltb i (hi / 8)) → es ≡ or_at ds (hi / 8) n → Paints bs es (λ i j. between lo hi (column i j))
run_in_more bs cs ds es lo hi p q m n s less e f d g h a k =
    rw k (paints_same
    (paints_on (paints_on (paints_or bs (lo / 8) m (λ i. leb p i) d) (rw h at a)) (paints_or ds (hi / 8) n (λ i. leb i q) g))
    (λ i j l o. let t : lo / 8 < hi / 8 = omega arith in rw (e, f) (run-across lo hi i j o t)))

-- ---- from the sheet's columns
pub one_comes : {bs cs : List ℕ} (first a : ℕ) → first ≤ a → Paints bs cs (λ i j. eqb (column i j) (a - first)) → Paints bs cs (λ i j. eqb (first + column i j) a)
one_comes first a h p = paints_same p (λ i j l n. one_shift first a (column i j) h)

pub one_not : (bs : List ℕ) (first a : ℕ) → a < first → Paints bs bs (λ i j. eqb (first + column i j) a)
one_not bs first a h = paints_same (paints_none bs) (λ i j l n. one_out first a (column i j) h)

pub run_comes : {bs cs : List ℕ} (first a b : ℕ) → first ≤ a → first ≤ b → Paints bs cs (λ i j. between (a - first) (b - first) (column i j)) → Paints bs cs (λ i j. between a b (first + column i j))
run_comes first a b h k p = paints_same p (λ i j l n. shift-inside first a b (column i j) h k)

pub run_cut : {bs cs : List ℕ} (first a b : ℕ) → a < first → first ≤ b → Paints bs cs (λ i j. between 0 (b - first) (column i j)) → Paints bs cs (λ i j. between a b (first + column i j))
run_cut first a b h k p = paints_same p (λ i j l n. shift_cut first a b (column i j) h k)

pub run_not : (bs : List ℕ) (first a b : ℕ) → b < first → Paints bs bs (λ i j. between a b (first + column i j))
run_not bs first a b h = paints_same (paints_none bs) (λ i j l n. shift_out first a b (column i j) h)

-- ---- a box in a row
module _ (first row x y w d : ℕ) where
  pub box-above : (bs : List ℕ) → row < y → Paints bs bs (boxed first row x y w d)
  box-above bs h = paints_same (paints_none bs) (λ i j l n. edge-above x y w d (first + column i j) row h)

  pub box-below : (bs : List ℕ) → y + d < row → Paints bs bs (boxed first row x y w d)
  box-below bs h = paints_same (paints_none bs) (λ i j l n. edge-below x y w d (first + column i j) row h)

  pub box-top : {bs cs : List ℕ} → row ≡ y → Paints bs cs (λ i j. between x (x + w) (first + column i j)) → Paints bs cs (boxed first row x y w d)
  box-top h p = paints_same p (λ i j l n. edge-top x y w d (first + column i j) row h)

  pub box-base : {bs cs : List ℕ} → row ≡ y + d → Paints bs cs (λ i j. between x (x + w) (first + column i j)) → Paints bs cs (boxed first row x y w d)
  box-base h p = paints_same p (λ i j l n. edge-base x y w d (first + column i j) row h)

  pub box_sides : {bs cs ds : List ℕ} → y ≤ row → row ≤ y + d → ¬ (row ≡ y) → ¬ (row ≡ y + d)
      → Paints bs cs (λ i j. eqb (first + column i j) x) → Paints cs ds (λ i j. eqb (first + column i j) (x + w)) → Paints bs ds (boxed first row x y w d)
  box_sides h k m o p q = paints_same (paints_on p q) (λ i j l n. edge_sides x y w d (first + column i j) row h k m o)
