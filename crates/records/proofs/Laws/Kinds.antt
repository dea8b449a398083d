-- The table of kinds: its numbers are the kinds' places in the list, so a number stands for one kind at most. Assumes nothing.
use Rattle.std.specs.Prelude.{◌≡◌, refl, ℕ, zero, suc, ◌≤◌, ◌<◌, length, None, Some}
use Rattle.std.proofs.Common.{sym, ap, ◌∙◌, arith}
use Rattle.std.proofs.Math.ListN.{get_or-eq_default}
use Rattle.records.specs.declared.kind.Kind.{Kind}
use Rattle.records.specs.declared.kind.Kind.TheVariants.{True, False, Nil, Int, Float, String, Bytes, Array, Dict, Name, Host, Closure, Index, Member, InstanceOf, Unary, Binary, Choice, Call, Do, Assign, Return, Assert, Break, Continue, Block, If, For, Let, ClassDecl, Fun, Class, Item, Param, Pair, Global, Stated, Method}
use Rattle.records.specs.Kinds.{number_of, kinds, kind_of}

-- A kind's number stands for it.
pub kind_number : (k : Kind) → kind_of (number_of k) ≡ Some k
kind_number True = refl
kind_number False = refl
kind_number Nil = refl
kind_number Int = refl
kind_number Float = refl
kind_number String = refl
kind_number Bytes = refl
kind_number Array = refl
kind_number Dict = refl
kind_number Name = refl
kind_number Host = refl
kind_number Closure = refl
kind_number Index = refl
kind_number Member = refl
kind_number InstanceOf = refl
kind_number Unary = refl
kind_number Binary = refl
kind_number Choice = refl
kind_number Call = refl
kind_number Do = refl
kind_number Assign = refl
kind_number Return = refl
kind_number Assert = refl
kind_number Break = refl
kind_number Continue = refl
kind_number Block = refl
kind_number If = refl
kind_number For = refl
kind_number Let = refl
kind_number ClassDecl = refl
kind_number Fun = refl
kind_number Class = refl
kind_number Item = refl
kind_number Param = refl
kind_number Pair = refl
kind_number Global = refl
kind_number Stated = refl
kind_number Method = refl

-- Two kinds have two numbers.
pub number_one : (j k : Kind) → number_of j ≡ number_of k → j ≡ k
number_one j k e = let z : Some j ≡ Some k = sym (kind_number j) ∙ ap kind_of e ∙ kind_number k in cc

-- A number of no kind.
pub kind_none : (x : ℕ) → (0 < x → 38 < x) → kind_of x ≡ None
kind_none zero h = refl
kind_none (suc x) h =
    let l : 38 < suc x = h (omega arith) in
    let m : length kinds ≤ suc x = omega arith in
    get_or-eq_default kinds None m
