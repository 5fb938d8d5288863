-- What the tests of Lists say, as facts. Assumes nothing.
use Rattle.std.specs.Prelude.{◌≡◌, refl, List, [], ◌∷◌, ◌⊎◌, Bool, true, false, ◌||◌, cond, ℕ, zero, suc, ◌+◌, ◌≤◌, ◌<◌, max, length, get_or, T, eqb}
use Rattle.std.proofs.Common.{sym, ◌∙◌, inl, inr, eqb→eq}
use native.Mathlib.Omega.{arith, max_cases}
use Rattle.std.proofs.Math.Decide.{ℕ_discrete}
use Rattle.std.proofs.Math.Dec.{eqb_refl}
use Rattle.whole.specs.Says.{Says}
use Rattle.whole.proofs.Laws.Says.{that_is, both, either, says_eq}
use Rattle.plan.specs.Lists.{At, index, from, keep, some, mem, ahead_in, heads, next_in, peak}

or_cases : (a b : Bool) → T (a || b) → T a ⊎ T b
or_cases true b h = inl tt
or_cases false b h = inr h

or_l : (a b : Bool) → T a → T (a || b)
or_l true b h = tt
or_l false b h = absurd h

or_r : (a b : Bool) → T b → T (a || b)
or_r true b h = tt
or_r false b h = h

-- ---- members
pub mem-here : (a b : ℕ) (l : List ℕ) → a ≡ b → T (mem a (b ∷ l))
unfolding mem some
mem-here a b l e = or_l (eqb a b) _ (rw e (eqb_refl b))

pub mem-none : (a : ℕ) → T (mem a []) → ⊥
unfolding mem some
mem-none a h = h

pub mem_there : (a b : ℕ) (l : List ℕ) → T (mem a l) → T (mem a (b ∷ l))
unfolding mem some
mem_there a b l h = or_r (eqb a b) _ h

pub mem_cases : (a b : ℕ) (l : List ℕ) → T (mem a (b ∷ l)) → (a ≡ b) ⊎ T (mem a l)
unfolding mem some
mem_cases a b l h = elim (or_cases (eqb a b) _ h) [ inl e ↦ inl (eqb→eq a b e) | inr k ↦ inr k ]

pub record Some (f : ℕ → Bool) (l : List ℕ) : Type 0 where
  pub at : ℕ
  pub there : T (mem at l)
  pub passes : T (f at)

pub some_show : (f : ℕ → Bool) (l : List ℕ) (a : ℕ) → T (mem a l) → T (f a) → T (some f l)
unfolding some mem
some_show f [] a m h = m
some_show f (b ∷ l) a m h = elim (mem_cases a b l m) [ inl e ↦ or_l (f b) _ (rw e at h) | inr k ↦ or_r (f b) _ (some_show f l a k h) ]

pub some_read : (f : ℕ → Bool) (l : List ℕ) → T (some f l) → Some f l
unfolding some
some_read f [] h = absurd h
some_read f (b ∷ l) h = go (or_cases (f b) (some f l) h) (some_read f l)
  where
    more : Some f l → Some f (b ∷ l)
    more g = record { at = g.at; there = mem_there g.at b l g.there; passes = g.passes }

    go : T (f b) ⊎ T (some f l) → (T (some f l) → Some f l) → Some f (b ∷ l)
    go (inl k) g = record { at = b; there = mem-here b b l refl; passes = k }
    go (inr k) g = more (g k)

pub says_some : (f : ℕ → Bool) (l : List ℕ) → Says (some f l) (Some f l)
says_some f l = record { read = some_read f l; show = λ s. some_show f l s.at s.there s.passes }

pub record Kept (f : ℕ → Bool) (l : List ℕ) (a : ℕ) : Type 0 where
  pub there : T (mem a l)
  pub passes : T (f a)

pub keep-read : (f : ℕ → Bool) (l : List ℕ) (a : ℕ) → T (mem a (keep f l)) → Kept f l a
unfolding keep
keep-read f [] a h = absurd (mem-none a h)
keep-read f (b ∷ l) a h = go (f b) refl h (keep-read f l a)
  where
    more : Kept f l a → Kept f (b ∷ l) a
    more g = record { there = mem_there a b l g.there; passes = g.passes }

    go : (t : Bool) → f b ≡ t → T (mem a (cond t (b ∷ keep f l) (keep f l))) → (T (mem a (keep f l)) → Kept f l a) → Kept f (b ∷ l) a
    go true e m g = elim (mem_cases a b (keep f l) m) [ inl q ↦ record { there = mem-here a b l q; passes = rw (q, e) tt } | inr k ↦ more (g k) ]
    go false e m g = more (g m)

pub keep_show : (f : ℕ → Bool) (l : List ℕ) (a : ℕ) → T (mem a l) → T (f a) → T (mem a (keep f l))
unfolding keep
keep_show f [] a m h = m
keep_show f (b ∷ l) a m h = go (f b) refl (mem_cases a b l m) (λ k. keep_show f l a k h)
  where
    go : (t : Bool) → f b ≡ t → (a ≡ b) ⊎ T (mem a l) → (T (mem a l) → T (mem a (keep f l))) → T (mem a (cond t (b ∷ keep f l) (keep f l)))
    go true e (inl q) g = mem-here a b (keep f l) q
    go true e (inr k) g = mem_there a b (keep f l) (g k)
    go false e (inl q) g = absurd (rw (q, e) at h)
    go false e (inr k) g = g k

pub from-read : (k d a : ℕ) → T (mem a (from k d)) → (k ≤ a) × (a < k + d)
unfolding from
from-read k zero a h = absurd (mem-none a h)
from-read k (suc d) a h = elim (mem_cases a k (from (suc k) d) h) [
  | inl e ↦ (omega arith, omega arith)
  | inr m ↦ let (p, q) = from-read (suc k) d a m in (omega arith, omega arith)
]

pub from_show : (k d a : ℕ) → k ≤ a → a < k + d → T (mem a (from k d))
unfolding from
from_show k zero a h g = absurd (omega arith)
from_show k (suc d) a h g = elim (ℕ_discrete a k) [
  | yes e ↦ mem-here a k (from (suc k) d) e
  | no e ↦ mem_there a k (from (suc k) d) (from_show (suc k) d a (omega arith) (omega arith))
]

-- ---- places
pub at_less : (l : List ℕ) (i a : ℕ) → At l i a → i < length l
at_less [] i a h = absurd h
at_less (c ∷ l) zero a h = omega arith
at_less (c ∷ l) (suc i) a h = omega (arith, at_less l i a h)

pub at_same : (l : List ℕ) (i a b : ℕ) → At l i a → At l i b → a ≡ b
at_same [] i a b p q = absurd p
at_same (c ∷ l) zero a b p q = p ∙ sym q
at_same (c ∷ l) (suc i) a b p q = at_same l i a b p q

pub at_get_or : (l : List ℕ) (i z : ℕ) → i < length l → At l i (get_or l i z)
at_get_or [] i z h = absurd (omega arith)
at_get_or (c ∷ l) zero z h = refl
at_get_or (c ∷ l) (suc i) z h = at_get_or l i z (omega arith)

pub at_mem : (l : List ℕ) (i a : ℕ) → At l i a → T (mem a l)
at_mem [] i a h = absurd h
at_mem (b ∷ l) zero a h = mem-here a b l h
at_mem (b ∷ l) (suc i) a h = mem_there a b l (at_mem l i a h)

pub mem-at : (l : List ℕ) (a : ℕ) → T (mem a l) → (i : ℕ) × At l i a
mem-at [] a h = absurd (mem-none a h)
mem-at (b ∷ l) a h = elim (mem_cases a b l h) [ inl e ↦ (0, e) | inr k ↦ let (i, p) = mem-at l a k in (suc i, p) ]

pub index_at : (l : List ℕ) (a : ℕ) → T (mem a l) → At l (index a l) a
unfolding index
index_at [] a h = absurd (mem-none a h)
index_at (b ∷ l) a h = go (eqb a b) refl (mem_cases a b l h) (index_at l a)
  where
    go : (t : Bool) → eqb a b ≡ t → (a ≡ b) ⊎ T (mem a l) → (T (mem a l) → At l (index a l) a) → At (b ∷ l) (cond t 0 (suc (index a l))) a
    go true e m g = eqb→eq a b (rw e tt)
    go false e (inl q) g = let h : T (eqb a b) = rw q (eqb_refl b) in absurd (rw e at h)
    go false e (inr k) g = g k

-- p before q; right before q
pub record Ahead (l : List ℕ) (p q : ℕ) : Type 0 where
  pub i : ℕ
  pub j : ℕ
  pub less : i < j
  pub first : At l i p
  pub second : At l j q

pub record Next (l : List ℕ) (p q : ℕ) : Type 0 where
  pub i : ℕ
  pub first : At l i p
  pub second : At l (suc i) q

pub says_ahead_in : (l : List ℕ) (p q : ℕ) → Says (ahead_in p q l) (Ahead l p q)
unfolding ahead_in
says_ahead_in [] p q = record { read = λ h. absurd h; show = λ s. s.first }
says_ahead_in (r ∷ l) p q =
    that_is (either (both (says_eq p r) (record { read = mem-at l q; show = λ (s : (i : ℕ) × At l i q). at_mem l s.0 q s.1 })) (says_ahead_in l p q))
    there (λ a. back a.i a.j a.less a.first a.second)
  where
    there : ((p ≡ r) × ((i : ℕ) × At l i q)) ⊎ Ahead l p q → Ahead (r ∷ l) p q
    there (inl h) = record { i = 0; j = suc h.1.0; less = omega arith; first = h.0; second = h.1.1 }
    there (inr a) = record { i = suc a.i; j = suc a.j; less = omega arith; first = a.first; second = a.second }

    back : (i j : ℕ) → i < j → At (r ∷ l) i p → At (r ∷ l) j q → ((p ≡ r) × ((i : ℕ) × At l i q)) ⊎ Ahead l p q
    back i zero h f s = absurd (omega arith)
    back zero (suc j) h f s = inl (f, (j, s))
    back (suc i) (suc j) h f s = inr (record { i = i; j = j; less = omega arith; first = f; second = s })

says_heads : (l : List ℕ) (q : ℕ) → Says (heads q l) (At l 0 q)
unfolding heads
says_heads [] q = record { read = λ h. h; show = λ s. s }
says_heads (r ∷ l) q = says_eq q r

pub says_next_in : (l : List ℕ) (p q : ℕ) → Says (next_in p q l) (Next l p q)
unfolding next_in
says_next_in [] p q = record { read = λ h. absurd h; show = λ s. s.first }
says_next_in (r ∷ l) p q = that_is (either (both (says_eq p r) (says_heads l q)) (says_next_in l p q)) there (λ a. back a.i a.first a.second)
  where
    there : ((p ≡ r) × At l 0 q) ⊎ Next l p q → Next (r ∷ l) p q
    there (inl h) = record { i = 0; first = h.0; second = h.1 }
    there (inr a) = record { i = suc a.i; first = a.first; second = a.second }

    back : (i : ℕ) → At (r ∷ l) i p → At (r ∷ l) (suc i) q → ((p ≡ r) × At l 0 q) ⊎ Next l p q
    back zero f s = inl (f, s)
    back (suc i) f s = inr (record { i = i; first = f; second = s })

-- no more pass than there are
pub keep_short : (f : ℕ → Bool) (k d : ℕ) → length (keep f (from k d)) ≤ d
unfolding keep from
keep_short f k zero = omega arith
keep_short f k (suc d) = go (f k) (keep_short f (suc k) d)
  where
    go : (t : Bool) → length (keep f (from (suc k) d)) ≤ d → length (cond t (k ∷ keep f (from (suc k) d)) (keep f (from (suc k) d))) ≤ suc d
    go true h = omega arith
    go false h = omega arith

-- ---- the greatest of a list
pub peak-all : (f : ℕ → ℕ) (l : List ℕ) (a : ℕ) → T (mem a l) → f a ≤ peak f l
unfolding peak
peak-all f [] a h = absurd (mem-none a h)
peak-all f (b ∷ l) a h = elim (mem_cases a b l h) [ inl e ↦ rw e (omega arith) | inr k ↦ omega (arith, peak-all f l a k) ]

-- a property of 0 and of each f is one of the greatest
pub peak-one : (f : ℕ → ℕ) (P : ℕ → Type 0) (l : List ℕ) → P 0 → ((a : ℕ) → T (mem a l) → P (f a)) → P (peak f l)
unfolding peak
peak-one f P [] z h = z
peak-one f P (b ∷ l) z h =
    max_cases (f b) (peak f l) (P (max (f b) (peak f l)))
    (λ p e. rw e (peak-one f P l z (λ a m. h a (mem_there a b l m)))) (λ p e. rw e (h b (mem-here b b l refl)))
