-- From what the parts found to all five rules. Assumes nothing.
use mathlib.Core.Path.{◌≡◌, sym, subst}
use mathlib.Core.List.{List}
use Prim.Native.Nat.{ℕ, ◌-◌}
use lib.ListN.{length}
use Rattle.plan.specs.Trees.{Column}
use Rattle.rules.specs.Search.{kept}
use Rattle.spans.specs.Spans.{at, Deepest}
use Rattle.looking_sights.specs.Sights.{Sights, Sighted}
use Rattle.looking.specs.Passes.{all_found}
use Rattle.sweeping.specs.Swept.{Seen, Ready, Alone, top, Rooted, Gathered, Small, Beside, Clear, Rows}
use Rattle.sweeping.proofs.Laws.Exact as exact
use Rattle.sweeping.proofs.Laws.Ready as laws

module _ (s : Sights) (n : ℕ) (seen : Seen s n) (h : Sighted s n) where
  same : length seen.table ≡ n
  same = seen.count

  here : Ready s (length seen.table)
  here = laws.ready seen.table seen.placement s seen.fit seen.looked (subst (λ (n : ℕ). Sighted s n) (sym same) h)

  pub ready : Ready s n
  ready = subst (λ (n : ℕ). Ready s n) same here

  pub rows : Alone s n → Rows s n
  rows a = subst (λ (n : ℕ). Rows s n) same (laws.rows seen.table seen.placement s seen.fit seen.looked (subst (λ (n : ℕ). Alone s n) (sym same) a))

  rooted : Rooted seen.table s n
  rooted = record { sound = seen.fit.sound; count = same; parents = λ c i. rw (seen.looked.agree.same c i) (seen.looked.sees.parents c i) }

  module _ (al : ℕ) (k : all_found s al n ≡ kept) where
    back : all_found s al (length seen.table) ≡ kept
    back = subst (λ (n : ℕ). all_found s al n ≡ kept) (sym same) k

    pub kept_alone : Alone s n
    kept_alone = subst (λ (n : ℕ). Alone s n) same (exact.kept_alone seen.table seen.placement s seen.fit.sound seen.looked al back)

    pub kept-clear : Clear s n
    kept-clear = subst (λ (n : ℕ). Clear s n) same (exact.kept-clear seen.table seen.placement s seen.fit.sound seen.looked al back)

  module _ {rights lefts : List ℕ} {high low : ℕ → ℕ} (e : Column rights n (λ c. (s c).right)) (f : Column lefts n (λ c. top - (s c).x))
      (d-all : Gathered s n (at rights) high) (l-all : Gathered s n (at lefts) low) where
    d : Deepest seen.table (at rights) high
    d = d-all.deepest seen.table rooted

    l : Deepest seen.table (at lefts) low
    l = l-all.deepest seen.table rooted

    e_here : Column rights (length seen.table) (λ c. (s c).right)
    e_here = subst (λ (n : ℕ). Column rights n (λ c. (s c).right)) (sym same) e

    f-here : Column lefts (length seen.table) (λ c. top - (s c).x)
    f-here = subst (λ (n : ℕ). Column lefts n (λ c. top - (s c).x)) (sym same) f

    pub small : Small n high low
    small = subst (λ (n : ℕ). Small n high low) same (laws.small seen.table s here e_here f-here d l)

    pub decided : (al : ℕ) → Alone s n → Beside s n al high low → Clear s n → all_found s al n ≡ kept
    decided al a b c =
        subst (λ (n : ℕ). all_found s al n ≡ kept) same
        (exact.quick_kept seen.table seen.placement s seen.fit.sound seen.looked al high low (subst (λ (n : ℕ). Alone s n) (sym same) a)
        (laws.extremes seen.table s here e_here f-here d l) (subst (λ (n : ℕ). Beside s n al high low) (sym same) b) (subst (λ (n : ℕ). Clear s n) (sym same) c))

    pub kept-beside : (al : ℕ) → all_found s al n ≡ kept → Beside s n al high low
    kept-beside al k =
        subst (λ (n : ℕ). Beside s n al high low) same
        (exact.kept-beside seen.table seen.placement s seen.fit.sound seen.looked al (back al k) high low (laws.most seen.table s here e_here f-here d l) (laws.least seen.table s here e_here f-here d l) (laws.near seen.table s here e_here f-here d l))
