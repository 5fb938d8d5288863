-- What sorting does to a list: the same members, none twice, in order; and there is only one such list. Assumes nothing.
use Rattle.std.specs.Prelude.{◌≡◌, ◌⊎◌, ◌≢◌, Bool, true, false, cond, length}
use Rattle.std.proofs.Math.Path.{refl, ap}
use Rattle.std.proofs.Common.{sym, ◌∙◌}
use mathlib.Core.List.{List, [], ◌∷◌}
use Rattle.std.proofs.Math.Logic.{inl, inr}
use Prim.Native.Nat.{ℕ, zero, suc, ◌+◌, ◌≤◌, ◌<◌}
use native.Mathlib.Omega.{arith}
use Rattle.std.proofs.Math.Decide.{dec_le, dec_lt}
use Rattle.std.proofs.Math.Dec.{T}
use Rattle.whole.proofs.Laws.Says.{says_le, is_true, is_false}
use Rattle.plan.specs.Lists.{At, from, keep, mem, total, insert, sort}
use Rattle.plan.proofs.Laws.Lists.{mem-here, mem_there, mem_cases, mem-none, at_mem, keep-read, from-read}

-- ---- one step
module _ (f : ℕ → ℕ) where
  pub insert-none : (a : ℕ) → insert f a [] ≡ a ∷ []
  unfolding insert
  insert-none a = refl

  pub insert-stops : (a b : ℕ) (l : List ℕ) → f a ≤ f b → insert f a (b ∷ l) ≡ a ∷ b ∷ l
  unfolding insert
  insert-stops a b l h = rw (is_true (says_le (f a) (f b)) h)

  pub insert-goes_on : (a b : ℕ) (l : List ℕ) → f b < f a → insert f a (b ∷ l) ≡ b ∷ insert f a l
  unfolding insert
  insert-goes_on a b l h = let n : ¬ (f a ≤ f b) = λ k. omega arith in rw (is_false (says_le (f a) (f b)) n)

  -- by where a goes
  pub insert_split : (P : List ℕ → Type 0) (a b : ℕ) (l : List ℕ) → (f a ≤ f b → P (a ∷ b ∷ l)) → (f b < f a → P (b ∷ insert f a l)) → P (insert f a (b ∷ l))
  insert_split P a b l stop on = elim (dec_le (f a) (f b)) [
    | yes h ↦ rw (insert-stops a b l h) (stop h)
    | no h ↦ let k : f b < f a = omega arith in rw (insert-goes_on a b l k) (on k)
  ]

  -- ---- length and members
  pub insert-length : (a : ℕ) (l : List ℕ) → length (insert f a l) ≡ suc (length l)
  insert-length a [] = ap length (insert-none a)
  insert-length a (b ∷ l) = insert_split (λ m. length m ≡ suc (suc (length l))) a b l (λ h. refl) (λ h. ap suc (insert-length a l))

  pub sort-length : (l : List ℕ) → length (sort f l) ≡ length l
  unfolding sort
  sort-length [] = refl
  sort-length (a ∷ l) = insert-length a (sort f l) ∙ ap suc (sort-length l)

  -- sums
  insert-total : (h : ℕ → ℕ) (a : ℕ) (l : List ℕ) → total h (insert f a l) ≡ h a + total h l
  unfolding total
  insert-total h a [] = ap (total h) (insert-none a)
  insert-total h a (b ∷ l) = insert_split (λ m. total h m ≡ h a + (h b + total h l)) a b l (λ _. refl) (λ _. omega (arith, insert-total h a l))

  pub sort-total : (h : ℕ → ℕ) (l : List ℕ) → total h (sort f l) ≡ total h l
  unfolding sort total
  sort-total h [] = refl
  sort-total h (a ∷ l) = omega (arith, insert-total h a (sort f l), sort-total h l)

  pub insert-read : (a : ℕ) (l : List ℕ) (x : ℕ) → T (mem x (insert f a l)) → (x ≡ a) ⊎ T (mem x l)
  insert-read a [] x h = elim (mem_cases x a [] (rw (insert-none a) at h)) [ inl e ↦ inl e | inr k ↦ inr k ]
  insert-read a (b ∷ l) x h = insert_split (λ m. T (mem x m) → (x ≡ a) ⊎ T (mem x (b ∷ l))) a b l (λ _ h. mem_cases x a (b ∷ l) h)
      (λ _ h. elim (mem_cases x b (insert f a l) h) [
        | inl e ↦ inr (mem-here x b l e)
        | inr k ↦ elim (insert-read a l x k) [ inl e ↦ inl e | inr m ↦ inr (mem_there x b l m) ]
      ]) h

  pub insert_new : (a : ℕ) (l : List ℕ) → T (mem a (insert f a l))
  insert_new a [] = rw (insert-none a) (mem-here a a [] refl)
  insert_new a (b ∷ l) = insert_split (λ m. T (mem a m)) a b l (λ _. mem-here a a (b ∷ l) refl) (λ _. mem_there a b (insert f a l) (insert_new a l))

  pub insert_old : (a : ℕ) (l : List ℕ) (x : ℕ) → T (mem x l) → T (mem x (insert f a l))
  insert_old a [] x h = absurd (mem-none x h)
  insert_old a (b ∷ l) x h = insert_split (λ m. T (mem x m)) a b l (λ _. mem_there x a (b ∷ l) h) (λ _. elim (mem_cases x b l h) [
    | inl e ↦ mem-here x b (insert f a l) e
    | inr k ↦ mem_there x b (insert f a l) (insert_old a l x k)
  ])

  pub sort-read : (l : List ℕ) (x : ℕ) → T (mem x (sort f l)) → T (mem x l)
  unfolding sort
  sort-read [] x h = h
  sort-read (a ∷ l) x h = elim (insert-read a (sort f l) x h) [ inl e ↦ mem-here x a l e | inr k ↦ mem_there x a l (sort-read l x k) ]

  pub sort_show : (l : List ℕ) (x : ℕ) → T (mem x l) → T (mem x (sort f l))
  unfolding sort
  sort_show [] x h = h
  sort_show (a ∷ l) x h = elim (mem_cases x a l h) [ inl e ↦ rw e (insert_new a (sort f l)) | inr k ↦ insert_old a (sort f l) x (sort_show l x k) ]

  -- ---- order: by f, then by number
  abbrev pub Before : ℕ → ℕ → Type 0
  Before a b = (f a < f b) ⊎ ((f a ≡ f b) × (a < b))

  pub before-once : (a b : ℕ) → Before a b → a ≢ b
  before-once a b (inl h) e = absurd (let k = ap f e in omega arith)
  before-once a b (inr h) e = absurd (omega arith)

  pub before_one_way : (a b : ℕ) → Before a b → Before b a → ⊥
  before_one_way a b (inl h) (inl k) = omega arith
  before_one_way a b (inl h) (inr k) = omega arith
  before_one_way a b (inr h) (inl k) = omega arith
  before_one_way a b (inr h) (inr k) = omega arith

  abbrev pub Ordered : List ℕ → Type 0
  Ordered [] = Unit {0}
  Ordered (a ∷ l) = ((b : ℕ) → T (mem b l) → Before a b) × Ordered l

  pub ordered_at : (l : List ℕ) → Ordered l → (i j a b : ℕ) → i < j → At l i a → At l j b → Before a b
  ordered_at [] o i j a b h p q = absurd p
  ordered_at (c ∷ l) o i zero a b h p q = absurd (omega arith)
  ordered_at (c ∷ l) o zero (suc j) a b h p q = rw p (o.0 b (at_mem l j b q))
  ordered_at (c ∷ l) o (suc i) (suc j) a b h p q = ordered_at l o.1 i j a b (omega arith) p q

  -- each has one place
  pub ordered_once : (l : List ℕ) → Ordered l → (i j a : ℕ) → At l i a → At l j a → i ≡ j
  ordered_once l o i j a p q = go (dec_lt i j) (dec_lt j i)
    where
      go : Dec (i < j) → Dec (j < i) → i ≡ j
      go (yes h) d = absurd (before-once a a (ordered_at l o i j a a h p q) refl)
      go (no h) (yes d) = absurd (before-once a a (ordered_at l o j i a a d q p) refl)
      go (no h) (no d) = omega arith

  -- a number lower than all is put in order
  pub insert_ordered : (a : ℕ) (l : List ℕ) → ((b : ℕ) → T (mem b l) → a < b) → Ordered l → Ordered (insert f a l)
  insert_ordered a [] low o = rw (insert-none a) (λ b m. absurd (mem-none b m), tt)
  insert_ordered a (b ∷ l) low o =
      insert_split Ordered a b l (λ h. (λ x m. first h x m (mem_cases x b l m), o))
      (λ h. (λ x m. later h x (insert-read a l x m), insert_ordered a l (λ x m. low x (mem_there x b l m)) o.1))
    where
      first : f a ≤ f b → (x : ℕ) → T (mem x (b ∷ l)) → (x ≡ b) ⊎ T (mem x l) → Before a x
      first h x m (inl e) = by_rank (dec_lt (f a) (f x)) (rw e h)
        where
          by_rank : Dec (f a < f x) → f a ≤ f x → Before a x
          by_rank (yes k) g = inl k
          by_rank (no k) g = inr (omega arith, low x m)
      first h x m (inr k) = by_rank (dec_lt (f a) (f x)) (o.0 x k)
        where
          by_rank : Dec (f a < f x) → Before b x → Before a x
          by_rank (yes k) g = inl k
          by_rank (no k) g = inr (elim g [ inl z ↦ omega arith | inr z ↦ omega arith ], low x m)

      later : f b < f a → (x : ℕ) → (x ≡ a) ⊎ T (mem x l) → Before b x
      later h x (inl e) = inl (rw e h)
      later h x (inr k) = o.0 x k

  -- what is kept of a range is sorted
  pub sort_ordered : (p : ℕ → Bool) (k d : ℕ) → Ordered (sort f (keep p (from k d)))
  unfolding sort keep from
  sort_ordered p k zero = tt
  sort_ordered p k (suc d) = go (p k) (sort_ordered p (suc k) d)
    where
      low : (b : ℕ) → T (mem b (sort f (keep p (from (suc k) d)))) → k < b
      low b m = omega (arith, from-read (suc k) d b (keep-read p (from (suc k) d) b (sort-read (keep p (from (suc k) d)) b m)).there)

      go : (t : Bool) → Ordered (sort f (keep p (from (suc k) d))) → Ordered (sort f (cond t (k ∷ keep p (from (suc k) d)) (keep p (from (suc k) d))))
      go true o = insert_ordered k (sort f (keep p (from (suc k) d))) low o
      go false o = o

  -- two lists in order with the same members are one
  pub ordered_same : (l m : List ℕ) → Ordered l → Ordered m → ((x : ℕ) → T (mem x l) → T (mem x m)) → ((x : ℕ) → T (mem x m) → T (mem x l)) → l ≡ m
  ordered_same [] [] o q to fro = refl
  ordered_same [] (b ∷ m) o q to fro = absurd (mem-none b (fro b (mem-here b b m refl)))
  ordered_same (a ∷ l) [] o q to fro = absurd (mem-none a (to a (mem-here a a l refl)))
  ordered_same (a ∷ l) (b ∷ m) o q to fro =
      let e = head (mem_cases a b m (to a (mem-here a a l refl))) (mem_cases b a l (fro b (mem-here b b m refl))) in
      tails e (ordered_same l m o.1 q.1 (λ x h. to_tail e x h (mem_cases x b m (to x (mem_there x a l h)))) (λ x h. fro_tail e x h (mem_cases x a l (fro x (mem_there x b m h)))))
    where
      head : (a ≡ b) ⊎ T (mem a m) → (b ≡ a) ⊎ T (mem b l) → a ≡ b
      head (inl e) r = e
      head (inr h) (inl e) = sym e
      head (inr h) (inr k) = absurd (before_one_way a b (o.0 b k) (q.0 a h))

      to_tail : a ≡ b → (x : ℕ) → T (mem x l) → (x ≡ b) ⊎ T (mem x m) → T (mem x m)
      to_tail e x h (inl z) = absurd (before-once a x (o.0 x h) (e ∙ sym z))
      to_tail e x h (inr k) = k

      fro_tail : a ≡ b → (x : ℕ) → T (mem x m) → (x ≡ a) ⊎ T (mem x l) → T (mem x l)
      fro_tail e x h (inl z) = absurd (before-once b x (q.0 x h) (sym e ∙ sym z))
      fro_tail e x h (inr k) = k

      tails : a ≡ b → l ≡ m → a ∷ l ≡ b ∷ m
      tails e h = rw (e, h)

  -- where f is the same throughout, the list stays as it is
  pub sort-level : (l : List ℕ) → ((a b : ℕ) → T (mem a l) → T (mem b l) → f a ≡ f b) → sort f l ≡ l
  unfolding sort
  sort-level [] h = refl
  sort-level (a ∷ []) h = insert-none a
  sort-level (a ∷ b ∷ l) h =
      ap (insert f a) (sort-level (b ∷ l) (λ x y p q. h x y (mem_there x a (b ∷ l) p) (mem_there y a (b ∷ l) q)))
      ∙ insert-stops a b l (let e = h a b (mem-here a a (b ∷ l) refl) (mem_there b a (b ∷ l) (mem-here b b l refl)) in omega arith)

-- only the values on the list matter
pub insert-same : (f g : ℕ → ℕ) (a : ℕ) (l : List ℕ) → f a ≡ g a → ((x : ℕ) → T (mem x l) → f x ≡ g x) → insert f a l ≡ insert g a l
unfolding insert
insert-same f g a [] e h = refl
insert-same f g a (b ∷ l) e h = rw (e, h b (mem-here b b l refl), insert-same f g a l e (λ x m. h x (mem_there x b l m)))

pub sort-same : (f g : ℕ → ℕ) (l : List ℕ) → ((x : ℕ) → T (mem x l) → f x ≡ g x) → sort f l ≡ sort g l
unfolding sort
sort-same f g [] h = refl
sort-same f g (a ∷ l) h =
    insert-same f g a (sort f l) (h a (mem-here a a l refl)) (λ x m. h x (mem_there x a l (sort-read f l x m)))
    ∙ ap (insert g a) (sort-same f g l (λ x m. h x (mem_there x a l m)))
