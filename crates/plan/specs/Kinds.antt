-- The kinds: how many children each allows, and its border. Assumes nothing.
use Rattle.std.specs.Prelude.{Option, Some, None, Bool, true, false, ℕ, zero, suc, ◌+◌, leb}
use Rattle.plan.specs.Limits.{between, most_children}
use Rattle.plan.specs.declared.kinds.Kind.{Kind}

-- 1 step, 2 run, 3 repeat, 4 choice, 5 wait
unfoldable pub about : ℕ → Option Kind
about zero = None
about (suc zero) = Some (record { fewest = 0; most = 0; border = 2 })
about (suc (suc zero)) = Some (record { fewest = 1; most = most_children; border = 2 })
about (suc (suc (suc zero))) = Some (record { fewest = 1; most = 1; border = 4 })
about (suc (suc (suc (suc zero)))) = Some (record { fewest = 2; most = most_children; border = 4 })
about (suc (suc (suc (suc (suc zero))))) = Some (record { fewest = 0; most = 1; border = 2 })
about (suc (suc (suc (suc (suc (suc k)))))) = None

-- question 7
unfoldable pub known : ℕ → Bool
known k = elim (about k) [ Some r ↦ true | None ↦ false ]

-- question 11: n children are allowed
unfoldable pub allows : ℕ → ℕ → Bool
allows k n = elim (about k) [ Some r ↦ between r.fewest r.most n | None ↦ false ]

-- question 10: a box of width w holds a label of n bytes and the kind's border, the least units that the width must exceed the label by
unfoldable pub bordered : (kind n w : ℕ) → Bool
bordered k n w = elim (about k) [ Some r ↦ leb (n + r.border) w | None ↦ false ]
