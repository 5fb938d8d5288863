-- Lists one after the other, raised, and sorted. Assumes nothing.
use Rattle.std.specs.Prelude.{◌≡◌, refl, List, [], ◌∷◌, map, ◌++◌, Bool, true, false, cond, ℕ, zero, suc, ◌+◌, ◌≤◌, ◌<◌, T, eqb, leb}
use Rattle.std.proofs.Common.{sym, ap, ◌∙◌, arith, eq-eqb, ne_eqb}
use Rattle.std.proofs.Math.Decide.{ℕ_discrete}
use Rattle.plan.specs.Lists.{from, keep, insert, sort, mem}
use Rattle.plan.proofs.Laws.Lists.{mem-here, mem_there}
use Rattle.plan.proofs.Laws.Sort.{sort-read}

pub from_split : (k d e : ℕ) → from k (d + e) ≡ from k d ++ from (k + d) e
unfolding from
from_split k zero e = let p : 0 + e ≡ e = omega arith in let q : k + 0 ≡ k = omega arith in rw (p, q)
from_split k (suc d) e =
    let p : suc d + e ≡ suc (d + e) = omega arith in
    let q : k + suc d ≡ suc k + d = omega arith in
    rw (p, q) (ap (λ (l : List ℕ). k ∷ l) (from_split (suc k) d e))

-- ---- what is kept of lists one after the other, and of a list raised
cond-after : (b : Bool) (x : ℕ) (xs ys : List ℕ) → cond b (x ∷ (xs ++ ys)) (xs ++ ys) ≡ cond b (x ∷ xs) xs ++ ys
cond-after true x xs ys = refl
cond-after false x xs ys = refl

pub keep-after : (f : ℕ → Bool) (xs ys : List ℕ) → keep f (xs ++ ys) ≡ keep f xs ++ keep f ys
unfolding keep
keep-after f [] ys = refl
keep-after f (x ∷ xs) ys = rw (keep-after f xs ys) (cond-after (f x) x (keep f xs) (keep f ys))

pub keep_same : (f g : ℕ → Bool) (k d : ℕ) → ((s : ℕ) → k ≤ s → s < k + d → f s ≡ g s) → keep f (from k d) ≡ keep g (from k d)
unfolding keep from
keep_same f g k zero h = refl
keep_same f g k (suc d) h = rw (h k (omega arith) (omega arith), keep_same f g (suc k) d (λ s p q. h s (omega arith) (omega arith)))

pub keep-none : (f : ℕ → Bool) (k d : ℕ) → ((s : ℕ) → k ≤ s → s < k + d → f s ≡ false) → keep f (from k d) ≡ []
unfolding keep from
keep-none f k zero h = refl
keep-none f k (suc d) h = rw (h k (omega arith) (omega arith)) (keep-none f (suc k) d (λ s p q. h s (omega arith) (omega arith)))

-- a list raised by n
abbrev pub up : ℕ → List ℕ → List ℕ
up n l = map (λ s. n + s) l

cond_up : (t : Bool) (n : ℕ) (xs ys : List ℕ) → cond t (up n xs) (up n ys) ≡ up n (cond t xs ys)
cond_up true n xs ys = refl
cond_up false n xs ys = refl

pub keep-raised : (f g : ℕ → Bool) (n k d : ℕ) → ((s : ℕ) → k ≤ s → s < k + d → f (n + s) ≡ g s) → keep f (from (n + k) d) ≡ up n (keep g (from k d))
unfolding keep from
keep-raised f g n k zero h = refl
keep-raised f g n k (suc d) h =
    let e : suc (n + k) ≡ n + suc k = omega arith in
    rw (e, keep-raised f g n (suc k) d (λ s p q. h s (omega arith) (omega arith)), h k (omega arith) (omega arith)) (cond_up (g k) n (k ∷ keep g (from (suc k) d)) (keep g (from (suc k) d)))

pub eqb_raised : (n a b : ℕ) → eqb (n + a) (n + b) ≡ eqb a b
eqb_raised n a b = go (ℕ_discrete a b)
  where
    go : Dec (a ≡ b) → eqb (n + a) (n + b) ≡ eqb a b
    go (yes e) = eq-eqb _ _ (ap (λ (x : ℕ). n + x) e) ∙ sym (eq-eqb _ _ e)
    go (no e) = ne_eqb _ _ (λ (q : n + a ≡ n + b). e (omega arith)) ∙ sym (ne_eqb _ _ e)

-- ---- sorting commutes with raising: f at the raised numbers is g at the numbers
insert-raised : (f g : ℕ → ℕ) (n a : ℕ) (l : List ℕ) → f (n + a) ≡ g a → ((s : ℕ) → T (mem s l) → f (n + s) ≡ g s) → insert f (n + a) (up n l) ≡ up n (insert g a l)
unfolding insert
insert-raised f g n a [] e h = refl
insert-raised f g n a (b ∷ l) e h =
    rw (e, h b (mem-here b b l refl), insert-raised f g n a l e (λ s m. h s (mem_there s b l m))) (cond_up (leb (g a) (g b)) n (a ∷ b ∷ l) (b ∷ insert g a l))

pub sort-raised : (f g : ℕ → ℕ) (n : ℕ) (l : List ℕ) → ((s : ℕ) → T (mem s l) → f (n + s) ≡ g s) → sort f (up n l) ≡ up n (sort g l)
unfolding sort
sort-raised f g n [] h = refl
sort-raised f g n (a ∷ l) h =
    rw (sort-raised f g n l (λ s m. h s (mem_there s a l m))) (insert-raised f g n a (sort g l) (h a (mem-here a a l refl)) (λ s m. h s (mem_there s a l (sort-read g l s m))))
