-- WHAT FIELDS MEAN among the records made before: a field that the table calls an expression holds the number of an expression's record,
-- and so on. Assumes nothing.
use Rattle.std.specs.Prelude.{◌≡◌, List, [], ◌∷◌, ◌++◌, Bool, true, false, ◌&&◌, ℕ, zero, suc, ◌≤◌, T, leb, eqb, length, None, Option, Some}
use Rattle.reading.specs.Events.{Field, word, ref, Rec}
use Rattle.records.specs.declared.kind.Kind.{Kind}
use Rattle.records.specs.declared.kind.Kind.TheVariants as kinds
use Rattle.records.specs.Kinds.{Meaning, expression, statement, function, class, items, span, low, high, mark, operator, id, number, unused, is_reference, shape, number_of, kind_of}

-- The kind of the record with this number, from 1 on; 0, which is no kind's, where there is none.
unfoldable pub kind_in : List Rec → ℕ → ℕ
kind_in [] k = 0
kind_in (r ∷ rs) zero = 0
kind_in (r ∷ rs) (suc zero) = r.kind
kind_in (r ∷ rs) (suc (suc k)) = kind_in rs (suc k)

-- From the one kind to the other, in the table's order.
abbrev among : Kind → Kind → ℕ → Bool
among a b k = leb (number_of a) k && leb k (number_of b)

-- The kinds that a reference may be to.
abbrev pub is_a : Meaning → ℕ → Bool
is_a expression k = among kinds.True kinds.Call k
is_a statement k = among kinds.Do kinds.ClassDecl k
is_a function k = eqb k (number_of kinds.Fun)
is_a class k = eqb k (number_of kinds.Class)
is_a items k = among kinds.Item kinds.Method k
is_a span k = false
is_a low k = false
is_a high k = false
is_a mark k = false
is_a operator k = false
is_a id k = false
is_a number k = false
is_a unused k = false

-- A record that was made, of such a kind.
pub record Is (made : List Rec) (m : Meaning) (k : ℕ) : Type 0 where
  pub earlier : k ≤ length made
  pub kind : T (is_a m (kind_in made k))

-- Such a record, or 0: none.
pub data MayBe (made : List Rec) (m : Meaning) (k : ℕ) : Type 0 where
  none : k ≡ 0 → MayBe made m k
  some : Is made m k → MayBe made m k

-- What a reference is to. A statement may be absent, and a list may have no item.
abbrev pub Refers : List Rec → Meaning → ℕ → Type 0
Refers made expression k = Is made expression k
Refers made statement k = MayBe made statement k
Refers made function k = Is made function k
Refers made class k = Is made class k
Refers made items k = MayBe made items k
Refers made span k = ⊥
Refers made low k = ⊥
Refers made high k = ⊥
Refers made mark k = ⊥
Refers made operator k = ⊥
Refers made id k = ⊥
Refers made number k = ⊥
Refers made unused k = ⊥

-- Only what the table calls no reference is a plain word.
abbrev pub Word : Bool → Type 0 → Type 0
Word true A = ⊥
Word false A = A

-- Each field is what its meaning says; past the meanings stand plain words.
abbrev pub Each : List Rec → List Meaning → List Field → Type 0
Each made [] [] = Unit
Each made [] (word k ∷ fs) = Each made [] fs
Each made [] (ref k ∷ fs) = ⊥
Each made (m ∷ ms) [] = ⊥
Each made (m ∷ ms) (word k ∷ fs) = Word (is_reference m) (Each made ms fs)
Each made (m ∷ ms) (ref k ∷ fs) = Refers made m k × Each made ms fs

abbrev pub MeantBy : Option Kind → List Rec → List Field → Type 0
MeantBy (Some k) made fs = Each made (shape k).fields fs
MeantBy None made fs = ⊥

-- MEANT: a record is of a kind of the table, and each of its fields is what the table says, after these records.
abbrev pub Meant : List Rec → Rec → Type 0
Meant made r = MeantBy (kind_of r.kind) made r.fields

-- Every record of a list is meant, after those before it.
abbrev pub AllMeant : List Rec → List Rec → Type 0
AllMeant made [] = Unit
AllMeant made (r ∷ rs) = Meant made r × AllMeant (made ++ (r ∷ [])) rs
