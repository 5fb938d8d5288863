-- Laws of the definitions in specs/Rows.antt. Assumes nothing.
use Rattle.std.specs.Prelude.{◌≡◌, refl, List, length, set, ltb, ◌≢◌}
use Rattle.std.proofs.Common.{◌∙◌, ap, sym, add-one, length-set, eq-or-lt_of_le, le_of_suc-le-suc, arith, get_or-set_same, get_or-set_other}
use Rattle.std.proofs.Math.Path.{subst}
use Prim.Native.Nat.{ℕ, zero, suc, ◌+◌, ◌-◌, ◌*◌, ◌≤◌, max, ◌<◌}
use Rattle.std.proofs.Math.Logic.{⊎_elim}
use Rattle.std.proofs.Math.Decide.{ℕ_discrete}
use Rattle.rows.specs.Rows.{row_size, extent, box_one, box_to, put_one, put_to, shifted_of, upto_left, upto_rows, beyond_rows, max_to, clash_to}

-- ---- one more; lengths
pub box_to-more : (xs : List ℕ) (k w n : ℕ) → box_to xs k w (n + 1) ≡ box_one (box_to xs k w n) k w n
unfolding box_to
box_to-more xs k w n = rw add-one

pub max_to-more : (xs : List ℕ) (k n : ℕ) → max_to xs k (n + 1) ≡ max (max_to xs k n) (extent xs n k)
unfolding max_to
max_to-more xs k n = rw add-one

pub clash_to-more : (xs : List ℕ) (k x n : ℕ) → clash_to xs k x (n + 1) ≡ max (clash_to xs k x n) ((extent xs n (k + 1) - x) + extent xs n (k + 2) + 1)
unfolding clash_to
clash_to-more xs k x n = rw add-one

pub put_to-more : (xs : List ℕ) (at : ℕ) (L R : ℕ → ℕ) (n : ℕ) → put_to xs at L R (n + 1) ≡ put_one (put_to xs at L R n) at n (L n) (R n)
unfolding put_to
put_to-more xs at L R n = rw add-one

pub box_to-length : (xs : List ℕ) (k w n : ℕ) → length (box_to xs k w n) ≡ length xs
unfolding box_to
box_to-length xs k w zero = refl
box_to-length xs k w (suc n) = simp length-set (box_to-length xs k w n)

pub put_to-length : (xs : List ℕ) (at : ℕ) (L R : ℕ → ℕ) (n : ℕ) → length (put_to xs at L R n) ≡ length xs
unfolding put_to
put_to-length xs at L R zero = refl
put_to-length xs at L R (suc n) = simp length-set (put_to-length xs at L R n)

module _ (xs : List ℕ) (at j l r : ℕ) (a : at ≤ 60) (fits : row_size * j + row_size ≤ length xs) where
  put-left : extent (put_one xs at j l r) j at ≡ l
  put-left =
      let lt : row_size * j + at < length xs = omega arith in
      let e1 : row_size * j + at ≢ row_size * j + at + 1 = omega arith in
      let e2 : row_size * j + at ≢ row_size * j + at + 2 = omega arith in
      let e3 : row_size * j + at ≢ row_size * j + at + 3 = omega arith in
      rw (get_or-set_other, get_or-set_other, get_or-set_other, get_or-set_same)

  put_right : extent (put_one xs at j l r) j (at + 1) ≡ r
  put_right =
      let p : row_size * j + (at + 1) ≡ row_size * j + at + 1 = omega arith in
      let lt : row_size * j + at + 1 < length (set xs (row_size * j + at) l) = simp length-set (omega arith) in
      let e2 : row_size * j + at + 1 ≢ row_size * j + at + 2 = omega arith in
      let e3 : row_size * j + at + 1 ≢ row_size * j + at + 3 = omega arith in
      rw (p, get_or-set_other, get_or-set_other, get_or-set_same)

  put-left_off : extent (put_one xs at j l r) j (at + 2) ≡ 0
  put-left_off =
      let p : row_size * j + (at + 2) ≡ row_size * j + at + 2 = omega arith in
      let lt : row_size * j + at + 2 < length (set (set xs (row_size * j + at) l) (row_size * j + at + 1) r) = simp length-set (omega arith) in
      let e3 : row_size * j + at + 2 ≢ row_size * j + at + 3 = omega arith in
      rw (p, get_or-set_other, get_or-set_same)

  put-right_off : extent (put_one xs at j l r) j (at + 3) ≡ 0
  put-right_off =
      let p : row_size * j + (at + 3) ≡ row_size * j + at + 3 = omega arith in
      let lt : row_size * j + at + 3 < length (set (set (set xs (row_size * j + at) l) (row_size * j + at + 1) r) (row_size * j + at + 2) 0) = simp length-set (omega arith) in
      rw (p, get_or-set_same)

  -- another row, or another column
  put_elsewhere : (i k : ℕ) → k < row_size → row_size * i + k ≢ row_size * j + at → row_size * i + k ≢ row_size * j + at + 1 → row_size * i + k ≢ row_size * j + at + 2 → row_size * i + k ≢ row_size * j + at + 3 → extent (put_one xs at j l r) i k ≡ extent xs i k
  put_elsewhere i k lt e0 e1 e2 e3 = rw (get_or-set_other, get_or-set_other, get_or-set_other, get_or-set_other)

  put-row-other : (i k : ℕ) → k < row_size → i ≢ j → extent (put_one xs at j l r) i k ≡ extent xs i k
  put-row-other i k lt ne = put_elsewhere i k lt (omega arith) (omega arith) (omega arith) (omega arith)

-- the rows from n on are as they were
pub put_to-above : (xs : List ℕ) (at : ℕ) (L R : ℕ → ℕ) (n : ℕ) → at ≤ 60 → row_size * n ≤ length xs → (i k : ℕ) → k < row_size → n ≤ i → extent (put_to xs at L R n) i k ≡ extent xs i k
unfolding put_to
put_to-above xs at L R zero a f i k b le = refl
put_to-above xs at L R (suc n) a f i k b le =
    put-row-other (put_to xs at L R n) at n _ _ a (omega (arith, put_to-length xs at L R n)) i k b (omega arith)
    ∙ put_to-above xs at L R n a (omega arith) i k b (omega arith)

-- the other columns too
pub put_to_else : (xs : List ℕ) (at : ℕ) (L R : ℕ → ℕ) (n : ℕ) → at ≤ 60 → row_size * n ≤ length xs → (i k : ℕ) → k < row_size → k ≢ at → k ≢ at + 1 → k ≢ at + 2 → k ≢ at + 3 → extent (put_to xs at L R n) i k ≡ extent xs i k
unfolding put_to
put_to_else xs at L R zero a f i k b n0 n1 n2 n3 = refl
put_to_else xs at L R (suc n) a f i k b n0 n1 n2 n3 =
    put_elsewhere (put_to xs at L R n) at n _ _ a (omega (arith, put_to-length xs at L R n)) i k b (omega arith) (omega arith) (omega arith) (omega arith)
    ∙ put_to_else xs at L R n a (omega arith) i k b n0 n1 n2 n3

-- a row below n
module _ (xs : List ℕ) (at : ℕ) (L R : ℕ → ℕ) (k : ℕ) (v : ℕ → ℕ) (b : k < row_size) (a : at ≤ 60)
    (here : (ys : List ℕ) (j : ℕ) → row_size * j + row_size ≤ length ys → extent (put_one ys at j (L j) (R j)) j k ≡ v j) where
  put_to-row : (n : ℕ) → row_size * n ≤ length xs → (j : ℕ) → j < n → extent (put_to xs at L R n) j k ≡ v j
  unfolding put_to
  put_to-row zero f j lt = absurd (omega arith)
  put_to-row (suc n) f j lt =
      let len = put_to-length xs at L R n in
      ⊎_elim
      (λ e. subst (λ (i : ℕ). extent (put_to xs at L R (suc n)) i k ≡ v i) (sym e) (here (put_to xs at L R n) n (omega arith)))
      (λ l. put-row-other (put_to xs at L R n) at n _ _ a (omega arith) j k b (omega arith) ∙ put_to-row n (omega arith) j l)
      (eq-or-lt_of_le (le_of_suc-le-suc lt))

module _ (xs : List ℕ) (at : ℕ) (L R : ℕ → ℕ) (n : ℕ) (a : at ≤ 60) (f : row_size * n ≤ length xs) (j : ℕ) (lt : j < n) where
  pub put_to-left : extent (put_to xs at L R n) j at ≡ L j
  put_to-left = put_to-row xs at L R at L (omega arith) a (λ ys i g. put-left ys at i (L i) (R i) a g) n f j lt

  pub put_to-right : extent (put_to xs at L R n) j (at + 1) ≡ R j
  put_to-right = put_to-row xs at L R (at + 1) R (omega arith) a (λ ys i g. put_right ys at i (L i) (R i) a g) n f j lt

  pub put_to-left_off : extent (put_to xs at L R n) j (at + 2) ≡ 0
  put_to-left_off = put_to-row xs at L R (at + 2) (λ i. 0) (omega arith) a (λ ys i g. put-left_off ys at i (L i) (R i) a g) n f j lt

  pub put_to-right_off : extent (put_to xs at L R n) j (at + 3) ≡ 0
  put_to-right_off = put_to-row xs at L R (at + 3) (λ i. 0) (omega arith) a (λ ys i g. put-right_off ys at i (L i) (R i) a g) n f j lt

-- a column is one of the four from at on, or another
pub data Column (at : ℕ) : ℕ → Type 0 where
  left : Column at at
  right : Column at (at + 1)
  left_off : Column at (at + 2)
  right_off : Column at (at + 3)
  other : {k : ℕ} → k ≢ at → k ≢ at + 1 → k ≢ at + 2 → k ≢ at + 3 → Column at k

pub column : (at k : ℕ) → Column at k
column at k = go (ℕ_discrete k at) (ℕ_discrete k (at + 1)) (ℕ_discrete k (at + 2)) (ℕ_discrete k (at + 3))
  where
    go : Dec (k ≡ at) → Dec (k ≡ at + 1) → Dec (k ≡ at + 2) → Dec (k ≡ at + 3) → Column at k
    go (yes e) _ _ _ = subst (Column at) (sym e) left
    go (no n0) (yes e) _ _ = subst (Column at) (sym e) right
    go (no n0) (no n1) (yes e) _ = subst (Column at) (sym e) left_off
    go (no n0) (no n1) (no n2) (yes e) = subst (Column at) (sym e) right_off
    go (no n0) (no n1) (no n2) (no n3) = other n0 n1 n2 n3

-- ---- a box of n rows in the column c
box_else : (xs : List ℕ) (c w n i k : ℕ) → row_size * i + k ≢ row_size * n + c → row_size * i + k ≢ row_size * n + c + 1 → extent (box_one xs c w n) i k ≡ extent xs i k
box_else xs c w n i k e0 e1 = rw (get_or-set_other, get_or-set_other)

pub box-above : (xs : List ℕ) (c w n : ℕ) → c ≤ 62 → (i k : ℕ) → k < row_size → n ≤ i → extent (box_to xs c w n) i k ≡ extent xs i k
unfolding box_to
box-above xs c w zero a i k b le = refl
box-above xs c w (suc n) a i k b le = box_else (box_to xs c w n) c w n i k (omega arith) (omega arith) ∙ box-above xs c w n a i k b (omega arith)

pub box-beside : (xs : List ℕ) (c w n : ℕ) → c ≤ 62 → (i k : ℕ) → k < row_size → k ≢ c → k ≢ c + 1 → extent (box_to xs c w n) i k ≡ extent xs i k
unfolding box_to
box-beside xs c w zero a i k b n0 n1 = refl
box-beside xs c w (suc n) a i k b n0 n1 = box_else (box_to xs c w n) c w n i k (omega arith) (omega arith) ∙ box-beside xs c w n a i k b n0 n1

-- a row of the box
module _ (xs : List ℕ) (c w k v : ℕ) (a : c ≤ 62) (b : k < row_size) (here : (ys : List ℕ) (j : ℕ) → row_size * j + row_size ≤ length ys → extent (box_one ys c w j) j k ≡ v) where
  box-row : (n : ℕ) → row_size * n ≤ length xs → (j : ℕ) → j < n → extent (box_to xs c w n) j k ≡ v
  unfolding box_to
  box-row zero f j lt = absurd (omega arith)
  box-row (suc n) f j lt =
      ⊎_elim
      (λ e. subst (λ (i : ℕ). extent (box_to xs c w (suc n)) i k ≡ v) (sym e) (here (box_to xs c w n) n (omega (arith, box_to-length xs c w n))))
      (λ l. box_else (box_to xs c w n) c w n j k (omega arith) (omega arith) ∙ box-row n (omega arith) j l)
      (eq-or-lt_of_le (le_of_suc-le-suc lt))

module _ (xs : List ℕ) (c w n : ℕ) (a : c ≤ 62) (f : row_size * n ≤ length xs) (j : ℕ) (lt : j < n) where
  pub box-left : extent (box_to xs c w n) j c ≡ 0
  box-left = box-row xs c w c 0 a (omega arith) here n f j lt
    where
      here : (ys : List ℕ) (j : ℕ) → row_size * j + row_size ≤ length ys → extent (box_one ys c w j) j c ≡ 0
      here ys j g =
          let l : row_size * j + c < length ys = omega arith in
          let ne : row_size * j + c ≢ row_size * j + c + 1 = omega arith in
          rw (get_or-set_other, get_or-set_same)

  pub box-right : extent (box_to xs c w n) j (c + 1) ≡ w
  box-right = box-row xs c w (c + 1) w a (omega arith) here n f j lt
    where
      here : (ys : List ℕ) (j : ℕ) → row_size * j + row_size ≤ length ys → extent (box_one ys c w j) j (c + 1) ≡ w
      here ys j g =
          let p : row_size * j + (c + 1) ≡ row_size * j + c + 1 = omega arith in
          let l : row_size * j + c + 1 < length (set ys (row_size * j + c) 0) = simp length-set (omega arith) in
          rw (p, get_or-set_same)

-- ---- one row more
module _ (xs ys : List ℕ) (at : ℕ) (L R : ℕ → ℕ) (j : ℕ) (is : ys ≡ put_to xs at L R j) (a : at ≤ 60) (f : row_size * j ≤ length xs) where
  pub unread : (k : ℕ) → k < row_size → extent ys j k ≡ extent xs j k
  unread k b = ap (λ (zs : List ℕ). extent zs j k) is ∙ put_to-above xs at L R j a f j k b (omega arith)

pub upto-more : (xs ys : List ℕ) (at h g j : ℕ) → ys ≡ upto_rows xs at h g j → at ≤ 60 → row_size * j ≤ length xs → {old new l r : ℕ} {last : List ℕ}
    → old ≡ extent ys j at → new ≡ extent ys j (at + 2) → l ≡ shifted_of (ltb j h) old g new → r ≡ extent ys j (at + 3) → last ≡ put_one ys at j l r → last ≡ upto_rows xs at h g (j + 1)
upto-more xs ys at h g j is a f e1 e2 e3 e4 e5 =
    let u = unread xs ys at _ _ j is a f in
    let u0 = u at (omega arith) in
    let u2 = u (at + 2) (omega arith) in
    let u3 = u (at + 3) (omega arith) in
    e5 ∙ rw (e3, e1, e2, e4, u0, u2, u3, is) (sym (put_to-more xs at (λ j. upto_left xs at h g j) (λ j. extent xs j (at + 3)) j))

pub beyond-more : (xs ys : List ℕ) (at x j : ℕ) → ys ≡ beyond_rows xs at x j → at ≤ 60 → row_size * j ≤ length xs → {l r r' : ℕ} {last : List ℕ}
    → l ≡ extent ys j at → r ≡ extent ys j (at + 3) → r' ≡ x + r → last ≡ put_one ys at j l r' → last ≡ beyond_rows xs at x (j + 1)
beyond-more xs ys at x j is a f e1 e2 e3 e4 =
    let u = unread xs ys at _ _ j is a f in
    let u0 = u at (omega arith) in
    let u3 = u (at + 3) (omega arith) in
    e4 ∙ rw (e3, e1, e2, u0, u3, is) (sym (put_to-more xs at (λ j. extent xs j at) (λ j. x + extent xs j (at + 3)) j))
