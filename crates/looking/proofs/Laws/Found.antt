-- What the search found, and the verdict. Assumes nothing.
use Rattle.std.specs.Prelude.{◌≡◌, refl, Result, Ok, Err, IsErrAnd, ⊤}
use Rattle.std.proofs.Common.{ap}
use Rattle.rules.specs.Search.{Verdict, kept, broken}
use Rattle.plan.specs.declared.Breach.{Breach}
use Rattle.looking.specs.Passes.{found_of}

pub kept-found : {v : Verdict} → v ≡ kept → Ok tt ≡ found_of v
unfolding found_of
kept-found e = rw e

pub broken-found : {v : Verdict} (e : Breach) → v ≡ broken e.rule e.a e.b → Err e ≡ found_of v
unfolding found_of
broken-found e h = rw h

pub found-broken : (v : Verdict) {e : Breach} → Err e ≡ found_of v → v ≡ broken e.rule e.a e.b
unfolding found_of
found-broken kept h = cc
found-broken (broken r a b) h = cc

pub found-kept : (v : Verdict) {u : ⊤} → Ok u ≡ found_of v → v ≡ kept
unfolding found_of
found-kept kept h = refl
found-kept (broken r a b) h = cc

-- what `?` hands on
pub that_breach : (y : Result ⊤ Breach) {e : Breach} → IsErrAnd y (λ d. d ≡ e) → y ≡ Err e
that_breach (Ok u) p = absurd p
that_breach (Err d) p = ap Err p
