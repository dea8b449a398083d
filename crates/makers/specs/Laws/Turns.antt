-- Loops over a text: each turn reads a byte at least, so the turns of a rule are enough. Assumes nothing.
use Rattle.std.specs.Prelude.{◌≡◌, List, ℕ, suc, ◌+◌, ◌-◌, ◌≤◌, ◌<◌, length}
use Rattle.std.proofs.Common.{subst, arith}
use Rattle.characters.specs.declared.place.Place.{Place}
use Rattle.characters.specs.Text.{Text, Stands}
use Rattle.characters.specs.PlaceLaws.{Reached, Advanced, reached_here, reached_on, advanced_reached}
use Rattle.reading.specs.declared.tally.Tally.{Tally}
use Rattle.reading.specs.Outs.{Out}
use Rattle.reading.specs.Process.{Grammar}
use Rattle.reading.specs.Says.{Does}
use Rattle.records.specs.Rows.{layout}
use Rattle.grammar.specs.Expressions.{Routine, Rule}

-- where a loop stands: in the text, with turns enough for what is left of it
pub record Turning (s : Text) (at here : Place) : Type 0 where
  pub fuel : ℕ
  pub enough : length s ≤ fuel + here.offset
  pub place : Reached s at here

abbrev pub turn_first : {s : Text} {at : Place} → Stands s at → Turning s at at
turn_first {s} {at} h = record { fuel = length s; enough = omega arith; place = reached_here h }

-- a turn that has read something
abbrev pub turn_on : {s : Text} {at here q : Place} (v : Turning s at here) → Advanced s here q → Turning s at q
turn_on {s} {at} {here} {q} v a =
    let i : here.offset < q.offset = a.further in
    let j : q.offset ≤ length s = a.stands.inside in
    let e : length s ≤ v.fuel + here.offset = v.enough in
    record { fuel = v.fuel - 1; enough = omega arith; place = reached_on v.place (advanced_reached a) }

pub turn_fuel : {s : Text} {at here q : Place} (v : Turning s at here) (a : Advanced s here q) → suc (turn_on v a).fuel ≡ v.fuel
turn_fuel {s} {at} {here} {q} v a =
    let i : here.offset < q.offset = a.further in
    let j : q.offset ≤ length s = a.stands.inside in
    let e : length s ≤ v.fuel + here.offset = v.enough in
    omega arith

pub turn_less : {s : Text} {here q : Place} → Advanced s here q → length s - q.offset < length s - here.offset
turn_less {s} {here} {q} a =
    let i : here.offset < q.offset = a.further in
    let j : q.offset ≤ length s = a.stands.inside in
    omega arith

pub go_on : {s : Text} {p q r : Place} → Advanced s p q → Reached s q r → Advanced s p r
go_on a b = record { stands = b.stands; further = omega arith }

-- the same rule, by other words for its turns
pub same_turns : {G : Grammar Routine} {cap comps left : ℕ} {t : Tally} {o : Out} {A B : List ℕ} (P : ℕ → Rule) {f g : ℕ} → f ≡ g
    → Does layout G cap comps left t (P f) o A B
    → Does layout G cap comps left t (P g) o A B
same_turns {G} {cap} {comps} {left} {t} {o} {A} {B} P e d = subst (λ (f : ℕ). Does layout G cap comps left t (P f) o A B) e d
