-- The children of the named cell: those it had, in their order, with the second plan's root among them by its rank. Assumes nothing.
use Rattle.std.specs.Prelude.{◌≡◌, ℕ, ◌≤◌, ◌<◌, length, T}
use Rattle.std.proofs.Math.Path.{refl, sym, ap}
use Rattle.std.proofs.Common.{◌∙◌}
use mathlib.Core.List.{List, [], ◌∷◌, ◌++◌}
use native.Mathlib.Omega.{arith}
use Rattle.std.proofs.Math.Decide.{dec_le}
use Rattle.whole.proofs.Laws.Says.{says_le, is_true, is_false}
use Rattle.plan.specs.Lists.{At, insert, sort, mem}
use Rattle.plan.proofs.Laws.Lists.{mem-here, mem_there, mem-at}
use Rattle.plan.proofs.Laws.Sort.{insert-none, insert-stops, insert-goes_on, sort-same}
use Rattle.plan.specs.Plan.{Table, Is, Sound, rank, filed, children}
use Rattle.plan.proofs.Laws.Plan.{child-read}
use Rattle.graft.specs.Joined.{joined}
use Rattle.graft.specs.Placed.{put_in}
use Rattle.graft.proofs.Laws.Joined.{first-rank, named-filed, filed-is}

module _ (f : ℕ → ℕ) (x : ℕ) where
  put-none : put_in f x [] ≡ x ∷ []
  unfolding put_in
  put-none = refl

  put_on : (b : ℕ) (l : List ℕ) → f b ≤ f x → put_in f x (b ∷ l) ≡ b ∷ put_in f x l
  unfolding put_in
  put_on b l h = rw (is_true (says_le (f b) (f x)) h)

  put-stops : (b : ℕ) (l : List ℕ) → f x < f b → put_in f x (b ∷ l) ≡ x ∷ b ∷ l
  unfolding put_in
  put-stops b l h = let n : ¬ (f b ≤ f x) = λ k. omega arith in rw (is_false (says_le (f b) (f x)) n)

  -- whichever of a and x is put in first; x stands behind where both have one f
  insert-put : (a : ℕ) (l : List ℕ) → insert f a (put_in f x l) ≡ put_in f x (insert f a l)
  insert-put a [] = go (dec_le (f a) (f x))
    where
      go : Dec (f a ≤ f x) → insert f a (put_in f x []) ≡ put_in f x (insert f a [])
      go (yes h) = rw (put-none, insert-none f a, insert-stops f a x [] h, put_on a [] h, put-none)
      go (no h) =
          let k : f x < f a = omega arith in
          rw (put-none, insert-none f a, insert-goes_on f a x [] k, insert-none f a, put-stops a [] k)
  insert-put a (b ∷ l) = go (dec_le (f a) (f b)) (dec_le (f b) (f x)) (dec_le (f a) (f x)) (insert-put a l)
    where
      go : Dec (f a ≤ f b) → Dec (f b ≤ f x) → Dec (f a ≤ f x) → insert f a (put_in f x l) ≡ put_in f x (insert f a l) → insert f a (put_in f x (b ∷ l)) ≡ put_in f x (insert f a (b ∷ l))
      go (yes h) (yes k) d e = rw (put_on b l k, insert-stops f a b (put_in f x l) h, insert-stops f a b l h, put_on a (b ∷ l) (omega arith), put_on b l k)
      go (yes h) (no k) (yes d) e =
          let n : f x < f b = omega arith in
          rw (put-stops b l n, insert-stops f a x (b ∷ l) d, insert-stops f a b l h, put_on a (b ∷ l) d, put-stops b l n)
      go (yes h) (no k) (no d) e =
          let n : f x < f b = omega arith in
          let m : f x < f a = omega arith in
          rw (put-stops b l n, insert-goes_on f a x (b ∷ l) m, insert-stops f a b l h, put-stops a (b ∷ l) m)
      go (no h) (yes k) d e = let n : f b < f a = omega arith in rw (put_on b l k, insert-goes_on f a b (put_in f x l) n, insert-goes_on f a b l n, put_on b (insert f a l) k, e)
      go (no h) (no k) d e =
          let n : f b < f a = omega arith in
          let m : f x < f b = omega arith in
          let o : f x < f a = omega arith in
          rw (put-stops b l m, insert-goes_on f a x (b ∷ l) o, insert-goes_on f a b l n, put-stops b (insert f a l) m)

  sort-put : (l : List ℕ) → sort f (l ++ (x ∷ [])) ≡ put_in f x (sort f l)
  unfolding sort
  sort-put [] = insert-none f x ∙ sym put-none
  sort-put (a ∷ l) = ap (insert f a) (sort-put l) ∙ insert-put a (sort f l)

  -- behind all, if none has a greater f
  put_last : (l : List ℕ) → ((s : ℕ) → T (mem s l) → f s ≤ f x) → put_in f x l ≡ l ++ (x ∷ [])
  put_last [] h = put-none
  put_last (b ∷ l) h = put_on b l (h b (mem-here b b l refl)) ∙ ap (λ (m : List ℕ). b ∷ m) (put_last l (λ s m. h s (mem_there s b l m)))

module _ (t u : Table) (st : Sound t) (some_first : 1 ≤ length t) (some_second : 1 ≤ length u) (c : ℕ) (at : Is t c) where
  pub named-children : children (joined t u c) c ≡ put_in (rank (joined t u c)) (length t) (children t c)
  unfolding children
  named-children =
      rw (named-filed t u st some_first some_second c at) (sort-put (rank (joined t u c)) (length t) (filed t c)
      ∙ ap (put_in (rank (joined t u c)) (length t)) (sort-same (rank (joined t u c)) (rank t) (filed t c) (λ s m. first-rank t u c s (filed-is t c s some_first m))))

  pub last_child : ((i s : ℕ) → At (children t c) i s → rank t s ≤ rank (joined t u c) (length t)) → children (joined t u c) c ≡ children t c ++ (length t ∷ [])
  last_child h = named-children ∙ put_last (rank (joined t u c)) (length t) (children t c) (λ s m.
      let (i, k) = mem-at (children t c) s m in omega (arith, first-rank t u c s (child-read t c i s k).is, h i s k))
