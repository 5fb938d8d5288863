-- Texts written one after the other. Assumes nothing.
use Rattle.std.specs.Prelude.{◌≡◌, refl, List, [], ◌∷◌, ◌++◌, ℕ, zero, suc, ◌+◌, ◌-◌, ◌/◌, ◌%◌, ◌≤◌, ◌<◌, length, take, drop, get_or, set, replicate}
use Rattle.std.proofs.Common.{sym, ap, ◌∙◌, add-one, arith, length-append, take-suc, take_all, drop-drop, append_assoc}
use Rattle.std.proofs.lemmas.List.{length-replicate}
use Rattle.std.proofs.lemmas.List.Edits.{sets, sets-eq}
use borrow.Rule.Slice.PartMut.{put_mid}
use Rattle.listing.specs.Printed.{Bytes, decimal}
use Rattle.listing.proofs.Laws.Printed.{decimal-one, decimal-more}
use Rattle.listing.specs.Put.{Put}
use Rattle.listing.specs.Line.{line_size, line_of}
use Rattle.listing.specs.declared.Line.{Line}

sets_append : (s t l : List ℕ) (i : ℕ) → sets l i (s ++ t) ≡ sets (sets l i s) (i + length s) t
sets_append [] t l i = let e : i + 0 ≡ i = omega arith in rw e
sets_append (a ∷ s) t l i = let e : i + suc (length s) ≡ suc i + length s = omega arith in rw e (sets_append s t (set l i a) (suc i))

-- one text after another
pub then : {a b c s t : List ℕ} {i j k : ℕ} → Put a i s b j → Put b j t c k → Put a i (s ++ t) c k
then {a} {b} {c} {s} {t} {i} {j} {k} p q =
    record {
      bytes = q.bytes ∙ rw (p.bytes, p.place) (sym (sets_append s t a i));
      place = rw (length-append s t) (omega (arith, p.place, q.place));
    }

-- no text, and one byte
pub put-none : (a : List ℕ) (i : ℕ) → Put a i [] a i
put-none a i = record { bytes = refl; place = omega arith }

pub put_one : (a : List ℕ) (i b : ℕ) → Put a i (b ∷ []) (set a i b) (i + 1)
put_one a i b = record { bytes = refl; place = refl }

-- the loop that copies a text, byte by byte
pub put-start : (a : List ℕ) (i : ℕ) → Put a i [] a (i + 0)
put-start a i = record { bytes = refl; place = refl }

module _ {a b : List ℕ} (s : List ℕ) {i n : ℕ} (p : Put a i (take n s) b (i + n)) where
  pub put-more : n < length s → Put a i (take (n + 1) s) (set b (i + n) (get_or s n 0)) (i + (n + 1))
  put-more h =
      let e : take (n + 1) s ≡ take n s ++ (get_or s n 0 ∷ []) = rw add-one (take-suc s n 0 h) in
      let f : i + (n + 1) ≡ i + n + 1 = omega arith in
      rw (e, f) (then p (put_one b (i + n) (get_or s n 0)))

  pub put_all : length s ≤ n → Put a i s b (i + n)
  put_all h = rw (take_all n s h) at p

-- a text copied into a part of the buffer
pub put-part : (a : List ℕ) (i k : ℕ) (t s : List ℕ) → t ≡ s → k ≡ length s → i + length s ≤ length a → Put a i s (put_mid i k a t) (i + length s)
put-part a i k t s e l h =
    record { bytes = rw (e, l) (ap (λ r. take i a ++ (s ++ r)) (drop-drop (length s) i a) ∙ sym (append_assoc (take i a) s _) ∙ sym (sets-eq s a i h)); place = refl }

-- a text of which all is written
pub put-done : {a b : List ℕ} (s : List ℕ) {at i n k : ℕ} → Put a at (take i s) b k → i ≤ n → n ≤ i → Put a at (take n s) b k
put-done s {i = i} {n = n} p g h = let e : i ≡ n = omega arith in rw e at p

-- the digits of a number, the last one last
pub decimal_digit : {a b : List ℕ} {i k n d : ℕ} → n < 10 → d ≡ 48 + n → Put a i (d ∷ []) b k → Put a i (decimal n) b k
decimal_digit {n = n} l e p = rw (decimal-one n l, ← e) p

pub decimal_last : {a b c : List ℕ} {i j k n d : ℕ} → 10 ≤ n → Put a i (decimal (n / 10)) b j → d ≡ 48 + n % 10 → Put b j (d ∷ []) c k → Put a i (decimal n) c k
decimal_last {n = n} l p e q = rw (decimal-more n l, ← e) (then p q)

-- a text written at the beginning of a line's buffer
pub drop-zeros : (k n : ℕ) → drop k (replicate {A = ℕ} n 0) ≡ replicate (n - k) 0
drop-zeros zero n = let e : n - 0 ≡ n = omega arith in rw e
drop-zeros (suc k) zero = let e : 0 - suc k ≡ 0 = omega arith in rw e
drop-zeros (suc k) (suc n) = let e : suc n - suc k ≡ n - k = omega arith in rw e (drop-zeros k n)

pub line-is : {s t b : Bytes} {n : ℕ} → Put (replicate line_size 0) 0 s b n → n ≤ line_size → s ≡ t → ◌≡◌ {A = Line} (record { bytes = b; length = n }) (line_of t)
unfolding line_of
line-is {s} {t} {b} {n} p h e =
    let z : 0 + length s ≡ length s = omega arith in
    let l : length s ≤ length (replicate {A = ℕ} line_size 0) = rw (length-replicate {A = ℕ} line_size 0) (omega (arith, p.place)) in
    let f : b ≡ s ++ replicate (line_size - length s) 0 = p.bytes ∙ sets-eq s _ 0 (rw z l) ∙ ap (λ r. s ++ r) (ap (λ k. drop k (replicate {A = ℕ} line_size 0)) z ∙ drop-zeros (length s) line_size) in
    let k : n ≡ length s = p.place ∙ z in
    rw (f, k, e)

-- the same of a line, which was empty
pub line-ended : {s t : Bytes} {e l : Line} → e ≡ line_of [] → Put e.bytes e.length s l.bytes l.length → l.length ≤ line_size → s ≡ t → (l ≡ line_of t) × (l.length ≤ line_size)
unfolding line_of
line-ended {s} {t} {e} {l} q p h k = (line-is (rw q at p) h k, h)
