-- What is read of an argument, a byte more at a time. Assumes nothing.
use Rattle.std.specs.Prelude.{◌≡◌, Bool, true, false, ◌&&◌, cond, List, ℕ, suc, ◌+◌, ◌*◌, ◌-◌, ◌<◌, ◌≤◌, min, eqb, leb, ltb, length, drop, get_or, Option}
use Rattle.std.proofs.Common.{sym, ap, subst, ◌∙◌, arith, drop-cons}
use Rattle.std.proofs.Math.Seq.{drop-length}
use Rattle.plot_arguments.specs.declared.Digits.{Digits}
use Rattle.plot_arguments.specs.Lengths.{point, most, start, broken, with_point, with_digit, step, run, finish, length_of}

run_more : (text : List ℕ) (i : ℕ) (d : Digits) → i < length text → run d (drop i text) ≡ run (step d (get_or text i 0)) (drop (suc i) text)
unfolding run
run_more text i d h = ap (run d) (drop-cons text i 0 h)

run_end : (text : List ℕ) (d : Digits) → run d (drop (length text) text) ≡ d
unfolding run
run_end text d = ap (run d) (drop-length text)

-- the number stays within its bound
low_cond : (b : Bool) (x y : Digits) → x.value ≤ most → y.value ≤ most → (cond b x y).value ≤ most
low_cond true x y p q = p
low_cond false x y p q = q

step_low : (d : Digits) (b : ℕ) → d.value ≤ most → (step d b).value ≤ most
unfolding step with_point with_digit
step_low d b h =
    let z : 0 ≤ most = omega arith in
    let m : min (10 * d.value + (b - 48)) most ≤ most = omega arith in
    low_cond d.fault _ _ z
    (low_cond (eqb b point) _ _ (low_cond (eqb d.place 0) _ _ h z) (low_cond (leb 48 b && leb b 57) _ _ (low_cond (ltb 3 d.place) _ _ z m) z))

-- the step at a point and at a digit, where nothing is wrong yet
second : (f p : Bool) (x y z : Digits) → f ≡ false → p ≡ true → cond f z (cond p x y) ≡ x
second f p x y z e g = rw (e, g)

third : (f p q r : Bool) (x y z : Digits) → f ≡ false → p ≡ false → q ≡ true → r ≡ true → cond f z (cond p x (cond (q && r) y z)) ≡ y
third f p q r x y z e g h k = rw (e, g, h, k)

pub step-point : (d : Digits) (b : ℕ) → d.fault ≡ false → eqb b point ≡ true → step d b ≡ with_point d
unfolding step
step-point d b e g = second d.fault (eqb b point) (with_point d) (cond (leb 48 b && leb b 57) (with_digit d b) broken) broken e g

pub step-digit : (d : Digits) (b : ℕ) → d.fault ≡ false → eqb b point ≡ false → leb 48 b ≡ true → leb b 57 ≡ true → step d b ≡ with_digit d b
unfolding step
step-digit d b e g h k = third d.fault (eqb b point) (leb 48 b) (leb b 57) (with_point d) (with_digit d b) broken e g h k

-- the loop: what is read of the rest is what is read of the text, a byte further on and at the end
pub go_on : (text : List ℕ) (i : ℕ) (d d' : Digits) → i < length text → d.value ≤ most → run d (drop i text) ≡ run start text → d' ≡ step d (get_or text i 0)
    → (i + 1 ≤ length text) × (d'.value ≤ most) × (run d' (drop (i + 1) text) ≡ run start text)
go_on text i d d' h low r e =
    let p : suc i ≡ i + 1 = omega arith in (
      omega arith,
      subst (λ (x : Digits). x.value ≤ most) (sym e) (step_low d (get_or text i 0) low),
      subst (λ (k : ℕ). run d' (drop k text) ≡ run start text) p (ap (λ (x : Digits). run x (drop (suc i) text)) e ∙ sym (run_more text i d h) ∙ r),
    )

pub ended : (text : List ℕ) (i : ℕ) (d : Digits) (l : Option ℕ) → i ≤ length text → length text ≤ i → run d (drop i text) ≡ run start text → l ≡ finish d → l ≡ length_of text
unfolding length_of
ended text i d l h k r e =
    let p : i ≡ length text = omega arith in
    let q : run d (drop (length text) text) ≡ run start text = subst (λ (j : ℕ). run d (drop j text) ≡ run start text) p r in
    e ∙ ap finish (sym (run_end text d) ∙ q)
