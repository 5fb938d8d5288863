-- For the code: the ends, number by number. Nothing that a reader must believe stands here. Assumes nothing.
use Rattle.std.specs.Prelude.{◌≡◌, ℤ, Result, Ok}
use Rattle.std.proofs.Common.{ap, sym, ◌∙◌}
use Rattle.plan.specs.declared.Refusal.{Refusal}
use Rattle.answers.specs.Answers.{ends_answer}

pub joined_alike : {x y x' y' u v u' v' : ℤ} → u ≡ x → v ≡ y → u' ≡ x' → v' ≡ y' → ends_answer (Ok (record { from_x = u; from_y = v; to_x = u'; to_y = v' })) ≡ ends_answer (Ok (record { from_x = x; from_y = y; to_x = x'; to_y = y' }))
joined_alike a b c d = rw (a, b, c, d)

-- what is told of an answer that is Ok, by the case of what is in it
pub within_ok : {A S : Type 0} (tells : Result A Refusal → S) {o : Result A Refusal} {x a : A} → o ≡ Ok x → x ≡ a → tells (Ok a) ≡ tells o
within_ok tells e q = ap tells (sym (e ∙ ap Ok q))
