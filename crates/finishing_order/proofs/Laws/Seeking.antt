-- The order along the links of a table in columns. Nothing that a reader must believe stands here. Assumes nothing.
use Rattle.std.specs.Prelude.{◌≡◌, refl, List, [], ◌∷◌, ℕ, zero, suc, ◌≤◌, ◌<◌, min, length, get_or, take}
use Rattle.std.proofs.Common.{◌∙◌, ap, sym, subst, arith}
use Rattle.std.proofs.Math.Decide.{dec_lt}
use Rattle.links.specs.Links.{Links}
use Rattle.plan.specs.Columns.{table_of}
use Rattle.plan.specs.Fit.{Fit}
use Rattle.plan.specs.Plan.{Is, parent}
use Rattle.plan.specs.declared.Columns.{Columns}
use Rattle.plan.proofs.Laws.Tables.{length-is, parent_is}
use Rattle.plan.specs.Lists as lists
use Rattle.finishing_order.specs.Postorder.{postorder}
use Rattle.finishing_order.proofs.Laws.Members.{order_length}
use Rattle.finishing_order.specs.Order.{Seeks, met}
use Rattle.finishing_order.proofs.Laws.Order.{seeks, met-is}

take_all : (n : ℕ) (l : List ℕ) → length l ≤ n → take n l ≡ l
take_all zero [] h = refl
take_all zero (x ∷ l) h = absurd (omega arith)
take_all (suc n) [] h = refl
take_all (suc n) (x ∷ l) h = ap (λ (r : List ℕ). x ∷ r) (take_all n l (omega arith))

module _ (t : Columns) (fit : Fit (table_of t)) (ls : List ℕ) (links : Links (table_of t) ls) where
  ups : (c : ℕ) → Is (table_of t) c → get_or t.parent c 0 ≡ parent (table_of t) c
  ups c i = sym (parent_is t c (omega (arith, length-is t)))

  pub seeking : Seeks ls t.parent t.count × (0 < t.count)
  seeking = (subst (Seeks ls t.parent) (length-is t) (seeks (table_of t) fit ls t.parent links ups), omega (arith, length-is t, fit.some_cell))

  -- a number of steps past the last is as the last
  pub met-here : (k x : ℕ) → met ls t.parent x (min k t.count) ≡ lists.mem x (take k (postorder (table_of t)))
  met-here k x =
      let n = length-is t in
      met-is (table_of t) fit ls t.parent links ups x (min k t.count) (omega (arith, n))
      ∙ ap (λ (l : List ℕ). lists.mem x l) (go (dec_lt k t.count))
    where
      size : length (postorder (table_of t)) ≡ t.count
      size = order_length (table_of t) fit.sound fit.some_cell ∙ length-is t

      go : Dec (k < t.count) → take (min k t.count) (postorder (table_of t)) ≡ take k (postorder (table_of t))
      go (yes l) = let e : min k t.count ≡ k = omega arith in ap (λ (i : ℕ). take i (postorder (table_of t))) e
      go (no ge) =
          let e : min k t.count ≡ t.count = omega arith in
          ap (λ (i : ℕ). take i (postorder (table_of t))) e ∙ take_all t.count (postorder (table_of t)) (omega (arith, size)) ∙ sym (take_all k (postorder (table_of t)) (omega (arith, size)))
