-- Laws of the drill: enough levels are enough, so a cell does what its kind says, with its children done in the same way; and an ended drill stays as it is. Assumes nothing.
use Rattle.std.specs.Prelude.{◌≡◌, Bool, length, get_or, T, leb}
use Rattle.std.proofs.Math.Path.{refl, ap}
use Rattle.std.proofs.Common.{◌∙◌, arith, leb→le, ltb-true}
use mathlib.Core.List.{List, [], ◌∷◌, ◌++◌}
use Rattle.std.proofs.Math.Bool.{true, false}
use Prim.Native.Nat.{ℕ, zero, suc, ◌+◌, ◌≤◌, ◌<◌}
use Rattle.std.proofs.Math.Dec.{ltb}
use Rattle.plan.specs.Limits.{most_level}
use Rattle.plan.specs.Lists.{At}
use Rattle.plan.proofs.Laws.Lists.{at_get_or}
use Rattle.plan.specs.Plan.{Table, Is, kind, children, level}
use Rattle.plan.proofs.Laws.Plan.{child-read}
use Rattle.plan.proofs.Laws.Trees.{level-child}
use Rattle.plan.specs.Kinds.{about, allows}
use Rattle.plan.proofs.Laws.Steps.{and_left, and_right}
use Rattle.plan.specs.Fit.{Fit}
use Rattle.moves.specs.Drill.{Outcome, finished, spent, wrong, full, Drill, HasEnded, unless_ended, taken, in_order, times, chosen, waited, by_kind, does, doing}

-- f and g do the cells of cs alike
abbrev Alike : (f g : ℕ → Drill → Drill) → List ℕ → Type 0
Alike f g cs = (i s : ℕ) → At cs i s → (d : Drill) → f s d ≡ g s d

module _ (f g : ℕ → Drill → Drill) where
  in_order-same : (cs : List ℕ) → Alike f g cs → (d : Drill) → in_order f cs d ≡ in_order g cs d
  unfolding in_order
  in_order-same [] h d = refl
  in_order-same (c ∷ cs) h d = ap (in_order f cs) (h 0 c refl d) ∙ in_order-same cs (λ i. h (suc i)) (g c d)

  times-same : (cs : List ℕ) → Alike f g cs → (n : ℕ) (d : Drill) → times n (in_order f cs) d ≡ times n (in_order g cs) d
  unfolding times
  times-same cs h zero d = refl
  times-same cs h (suc n) d = ap (times n (in_order f cs)) (in_order-same cs h d) ∙ times-same cs h n (in_order g cs d)

  chosen-same : (cs : List ℕ) → Alike f g cs → (a : ℕ) (d : Drill) → chosen f cs a d ≡ chosen g cs a d
  unfolding chosen
  chosen-same cs h a d = go (ltb a (length cs)) refl
    where
      go : (b : Bool) → ltb a (length cs) ≡ b → chosen f cs a d ≡ chosen g cs a d
      go true e = rw (e, chosen) (h a (get_or cs a 0) (at_get_or cs a 0 (ltb-true _ _ e)) d)
      go false e = rw (e, chosen)

  waited-same : (cs : List ℕ) → Alike f g cs → (a : ℕ) (d : Drill) → waited f cs a d ≡ waited g cs a d
  unfolding waited
  waited-same cs h zero d = refl
  waited-same cs h (suc zero) d = in_order-same cs h d
  waited-same cs h (suc (suc a)) d = refl

taken-same : (bs : List ℕ) (f g : ℕ → Drill → Drill) → ((a : ℕ) (d : Drill) → f a d ≡ g a d) → (d : Drill) → taken bs f d ≡ taken bs g d
unfolding taken
taken-same bs f g h d = go (ltb d.used (length bs)) refl
  where
    go : (b : Bool) → ltb d.used (length bs) ≡ b → taken bs f d ≡ taken bs g d
    go true e = rw (e, taken) (h _ _)
    go false e = rw (e, taken)

by_kind-same : (bs : List ℕ) (f g : ℕ → Drill → Drill) (k c : ℕ) (cs : List ℕ) → Alike f g cs → (d : Drill) → by_kind bs f k c cs d ≡ by_kind bs g k c cs d
unfolding by_kind
by_kind-same bs f g zero c cs h d = refl
by_kind-same bs f g (suc zero) c cs h d = refl
by_kind-same bs f g (suc (suc zero)) c cs h d = in_order-same f g cs h d
by_kind-same bs f g (suc (suc (suc zero))) c cs h d = taken-same bs _ _ (times-same f g cs h) d
by_kind-same bs f g (suc (suc (suc (suc zero)))) c cs h d = taken-same bs _ _ (chosen-same f g cs h) d
by_kind-same bs f g (suc (suc (suc (suc (suc zero))))) c cs h d = taken-same bs _ _ (waited-same f g cs h) d
by_kind-same bs f g (suc (suc (suc (suc (suc (suc k)))))) c cs h d = refl

unless-same : (o : Outcome) (f g : Drill → Drill) → ((d : Drill) → f d ≡ g d) → (d : Drill) → unless_ended o f d ≡ unless_ended o g d
unless-same finished f g h d = h d
unless-same spent f g h d = refl
unless-same wrong f g h d = refl
unless-same full f g h d = refl

module _ (t : Table) (fit : Fit t) (bs : List ℕ) where
  -- as many levels as there may be from c downwards are enough
  enough : (m n c : ℕ) → Is t c → most_level < level t c + m → most_level < level t c + n → (d : Drill) → does t bs m c d ≡ does t bs n c d
  unfolding does
  enough zero n c i p q d = absurd (omega (arith, fit.not_too_low c i))
  enough (suc m) zero c i p q d = absurd (omega (arith, fit.not_too_low c i))
  enough (suc m) (suc n) c i p q d =
      unless-same d.outcome _ _
      (by_kind-same bs (does t bs m) (does t bs n) (kind t c) c (children t c)
      (λ j s h. enough m n s (child-read t c j s h).is (omega (arith, level-child t fit.sound c j s h)) (omega (arith, level-child t fit.sound c j s h)))) d

  -- THE reading of E12: a cell does what its kind says, and its children do what theirs say
  pub doing-is : (c : ℕ) → Is t c → (d : Drill) → doing t bs c d ≡ unless_ended d.outcome (by_kind bs (doing t bs) (kind t c) c (children t c)) d
  unfolding does
  doing-is c i d =
      unless-same d.outcome _ _
      (by_kind-same bs (does t bs most_level) (doing t bs) (kind t c) c (children t c)
      (λ j s h. enough most_level (suc most_level) s (child-read t c j s h).is (omega (arith, level-child t fit.sound c j s h)) (omega (arith, level-child t fit.sound c j s h)))) d

  -- from the root 32 levels are enough
  pub levels_enough : (m : ℕ) → suc most_level ≤ m → (d : Drill) → does t bs m 0 d ≡ doing t bs 0 d
  levels_enough m l d = enough m (suc most_level) 0 fit.some_cell (omega arith) (omega arith) d

-- ---- an ended drill
pub unless_id : (o : Outcome) (f : Drill → Drill) (d : Drill) → HasEnded o → unless_ended o f d ≡ d
unless_id finished f d h = absurd h
unless_id spent f d h = refl
unless_id wrong f d h = refl
unless_id full f d h = refl

module _ (t : Table) (bs : List ℕ) (n : ℕ) where
  pub does-ended : (c : ℕ) (d : Drill) → HasEnded d.outcome → does t bs n c d ≡ d
  does-ended c d h = go n
    where
      go : (n : ℕ) → does t bs n c d ≡ d
      go zero = unfold does in refl
      go (suc n) = unfold does in (unless_id d.outcome _ d h)

  pub order_ended : (xs : List ℕ) (d : Drill) → HasEnded d.outcome → in_order (does t bs n) xs d ≡ d
  unfolding in_order
  order_ended [] d h = refl
  order_ended (x ∷ xs) d h = ap (in_order (does t bs n) xs) (does-ended x d h) ∙ order_ended xs d h

pub in_order-append : (f : ℕ → Drill → Drill) (xs ys : List ℕ) (d : Drill) → in_order f (xs ++ ys) d ≡ in_order f ys (in_order f xs d)
unfolding in_order
in_order-append f [] ys d = refl
in_order-append f (x ∷ xs) ys d = in_order-append f xs ys (f x d)

-- ---- the numbers of children that the kinds allow
pub no_kind : (n : ℕ) → T (allows 0 n) → ⊥
unfolding allows about
no_kind n h = h

pub no-kind-more : (k n : ℕ) → T (allows (suc (suc (suc (suc (suc (suc k)))))) n) → ⊥
unfolding allows about
no-kind-more k n h = h

pub run-children : {n : ℕ} → T (allows 2 n) → 1 ≤ n
unfolding allows about
run-children {n} h = leb→le 1 n (and_left (leb 1 n) _ h)

pub repeat_children : {n : ℕ} → T (allows 3 n) → n ≡ 1
unfolding allows about
repeat_children {n} h = omega (arith, leb→le 1 n (and_left (leb 1 n) _ h), leb→le n 1 (and_right (leb 1 n) _ h))

pub wait_children : {n : ℕ} → T (allows 5 n) → n ≤ 1
unfolding allows about
wait_children {n} h = leb→le n 1 (and_right (leb 0 n) _ h)
