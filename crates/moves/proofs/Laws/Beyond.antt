-- What the moves never pass: the answer bytes, the records; and bytes after the last one used change nothing. Assumes nothing.
use Rattle.std.specs.Prelude.{◌≡◌, refl, List, [], ◌∷◌, ◌++◌, ℕ, ◌≤◌, ◌<◌, length, get_or, take}
use Rattle.std.proofs.Common.{◌∙◌, ap, sym, arith, length-append, length-take, length-take-le, get_or-take}
use Rattle.std.proofs.lemmas.List.{take-append-le}
use Rattle.plan.specs.Limits.{most_steps}
use Rattle.plan.specs.Plan.{Table}
use Rattle.plan.specs.Fit.{Fit}
use Rattle.moves.specs.Drill.{Outcome, finished, spent, wrong, full, Drill, drill_of}
use Rattle.moves.specs.Moves.{Stand, at, Byte, Move, records, runs, repeats, chooses, goes_on, does_it, Reach, stay, then, Stops, all_done, none_left, no_branch, above_one, no_room, Ends, used_at, stopped}
use Rattle.moves.proofs.Laws.Moves.{end-found, ends_there}

module _ (t : Table) (bs : List ℕ) where
  -- ---- what a move keeps
  record Within (p q : Stand) : Type 0 where
    grows : p.used ≤ q.used
    used : p.used ≤ length bs → q.used ≤ length bs
    steps : length p.steps ≤ most_steps → length q.steps ≤ most_steps

  within-one : {p q : Stand} → Move t bs p q → Within p q
  within-one (records {c = c} {ss = ss} e l) = record { grows = omega arith; used = λ h. h; steps = λ h. omega (arith, length-append ss (c ∷ [])) }
  within-one (runs e) = record { grows = omega arith; used = λ h. h; steps = λ h. h }
  within-one (repeats a e b) = record { grows = omega arith; used = λ h. omega (arith, b.left); steps = λ h. h }
  within-one (chooses a s e b h) = record { grows = omega arith; used = λ h. omega (arith, b.left); steps = λ h. h }
  within-one (goes_on e b) = record { grows = omega arith; used = λ h. omega (arith, b.left); steps = λ h. h }
  within-one (does_it e b) = record { grows = omega arith; used = λ h. omega (arith, b.left); steps = λ h. h }

  within : {p q : Stand} → Reach t bs p q → Within p q
  within stay = record { grows = omega arith; used = λ h. h; steps = λ h. h }
  within (then m w) =
      let a = within-one m in
      let b = within w in
      record { grows = omega (arith, a.grows, b.grows); used = λ h. b.used (a.used h); steps = λ h. b.steps (a.steps h) }

  stops_used : {o : Outcome} {p : Stand} → Stops t bs o p → p.used ≤ length bs → used_at o p.used ≤ length bs
  unfolding used_at
  stops_used all_done h = h
  stops_used (none_left k l) h = h
  stops_used (no_branch a e b l) h = omega (arith, b.left)
  stops_used (above_one a e b l) h = omega (arith, b.left)
  stops_used (no_room e l) h = h

  stops-spent : {p : Stand} → Stops t bs spent p → length bs ≤ p.used
  stops-spent (none_left k l) = l

  stops-full : {p : Stand} → Stops t bs full p → most_steps ≤ length p.steps
  stops-full (no_room e l) = l

  module _ (fit : Fit t) where
    abbrev end : Ends t bs (drill_of t bs).outcome
    end = end-found t bs fit

    end_is : drill_of t bs ≡ stopped (drill_of t bs).outcome end.stand
    end_is = ends_there t bs fit end.reached end.stops

    pub used_few : (drill_of t bs).used ≤ length bs
    used_few = omega (arith, ap (λ (d : Drill). d.used) end_is, stops_used end.stops ((within end.reached).used (omega arith)))

    pub records_few : length (drill_of t bs).steps ≤ most_steps
    records_few = omega (arith, ap (λ (d : Drill). length d.steps) end_is, (within end.reached).steps (omega arith))

    pub spent_all : (drill_of t bs).outcome ≡ spent → (drill_of t bs).used ≡ length bs
    spent_all e = go (drill_of t bs).outcome e end.stops (ap (λ (d : Drill). d.used) end_is)
      where
        go : (o : Outcome) → o ≡ spent → Stops t bs o end.stand → (drill_of t bs).used ≡ used_at o end.stand.used → (drill_of t bs).used ≡ length bs
        go o q s u = let s' : Stops t bs spent end.stand = rw q at s in unfold used_at in (omega (arith, rw q at u, stops-spent s', (within end.reached).used (omega arith)))

    pub full-all : (drill_of t bs).outcome ≡ full → length (drill_of t bs).steps ≡ most_steps
    full-all e = go (drill_of t bs).outcome e end.stops
      where
        go : (o : Outcome) → o ≡ full → Stops t bs o end.stand → length (drill_of t bs).steps ≡ most_steps
        go o q s =
            let s' : Stops t bs full end.stand = rw q at s in
            omega (arith, records_few, ap (λ (d : Drill). length d.steps) end_is, stops-full s')

-- ---- two lists of answers that agree in the first k bytes
record Agree (k : ℕ) (bs cs : List ℕ) : Type 0 where
  long : k ≤ length cs
  alike : (i : ℕ) → i < k → get_or bs i 0 ≡ get_or cs i 0

module _ (t : Table) (k : ℕ) (bs cs : List ℕ) (g : Agree k bs cs) where
  byte_too : (u a : ℕ) → u < k → Byte t bs u a → Byte t cs u a
  byte_too u a l b = record { left = omega (arith, g.long); is = sym (g.alike u l) ∙ b.is }

  move_too : {p q : Stand} → q.used ≤ k → Move t bs p q → Move t cs p q
  move_too h (records e l) = records e l
  move_too h (runs e) = runs e
  move_too h (repeats {u = u} a e b) = repeats a e (byte_too u a (omega arith) b)
  move_too h (chooses {u = u} a s e b x) = chooses a s e (byte_too u a (omega arith) b) x
  move_too h (goes_on {u = u} e b) = goes_on e (byte_too u 0 (omega arith) b)
  move_too h (does_it {u = u} e b) = does_it e (byte_too u 1 (omega arith) b)

  reach_too : {p q : Stand} → q.used ≤ k → Reach t bs p q → Reach t cs p q
  reach_too h stay = stay
  reach_too h (then m w) = then (move_too (omega (arith, (within t bs w).grows)) m) (reach_too h w)

  stops_too : {o : Outcome} {p : Stand} → (o ≡ spent → ⊥) → used_at o p.used ≤ k → Stops t bs o p → Stops t cs o p
  unfolding used_at
  stops_too z h all_done = all_done
  stops_too z h (none_left x l) = absurd (z refl)
  stops_too z h (no_branch {u = u} a e b l) = no_branch a e (byte_too u a (omega arith) b) l
  stops_too z h (above_one {u = u} a e b l) = above_one a e (byte_too u a (omega arith) b) l
  stops_too z h (no_room e l) = no_room e l

used_most : (o : Outcome) (u : ℕ) → u ≤ used_at o u
unfolding used_at
used_most finished u = omega arith
used_most spent u = omega arith
used_most wrong u = omega arith
used_most full u = omega arith

module _ (t : Table) (fit : Fit t) (bs cs : List ℕ) where
  abbrev k : ℕ
  k = (drill_of t bs).used

  agree : take k cs ≡ take k bs → Agree k bs cs
  agree e =
      let l : length (take k bs) ≡ k = length-take-le k bs (used_few t bs fit) in
      record {
        long = omega (arith, ap length e, l, length-take k cs);
        alike = λ i h. sym (get_or-take k bs i 0 h) ∙ ap (λ (x : List ℕ). get_or x i 0) (sym e) ∙ get_or-take k cs i 0 h;
      }

  pub bytes-beyond : ((drill_of t bs).outcome ≡ spent → ⊥) → take k cs ≡ take k bs → drill_of t cs ≡ drill_of t bs
  bytes-beyond z e =
      let g = agree e in
      let p = end t bs fit in
      let q = end_is t bs fit in
      let u : used_at (drill_of t bs).outcome p.stand.used ≤ k = omega (arith, ap (λ (d : Drill). d.used) q) in
      ends_there t cs fit (reach_too t k bs cs g (omega (arith, used_most (drill_of t bs).outcome p.stand.used)) p.reached) (stops_too t k bs cs g z u p.stops) ∙ sym q

pub more_answers : (t : Table) → Fit t → (bs more : List ℕ) → ((drill_of t bs).outcome ≡ spent → ⊥) → drill_of t (bs ++ more) ≡ drill_of t bs
more_answers t fit bs more z = bytes-beyond t fit bs (bs ++ more) z (take-append-le (drill_of t bs).used bs more (used_few t bs fit))
