-- THE TABLE OF KINDS: each kind's number in a row, its name in the listing, and what each of its fields means. The writer of rows, their
-- reader, the listing and docs/LISTING.md are held to it. Assumes nothing.
use Rattle.std.specs.Prelude.{List, [], ◌∷◌, Bool, true, false, ℕ, get_or, None, Option, Some}
use Rattle.records.specs.declared.kind.Kind.{Kind}
use Rattle.records.specs.declared.kind.Kind.TheVariants.{True, False, Nil, Int, Float, String, Bytes, Array, Dict, Name, Host, Closure, Index, Member, InstanceOf, Unary, Binary, Choice, Call, Do, Assign, Return, Assert, Break, Continue, Block, If, For, Let, ClassDecl, Fun, Class, Item, Param, Pair, Global, Stated, Method}

-- What a field holds: the number of a record, or a plain word.
pub data Meaning : Type 0 where
  expression : Meaning  -- the record of an expression
  statement : Meaning  -- the record of a statement; 0 where it is absent
  function : Meaning  -- the record of a function
  class : Meaning  -- the record of a class
  items : Meaning  -- the last item of a list, or the item before this one; 0 where there is none
  span : Meaning  -- a span of the text, in one word; 0 where there is no name
  low : Meaning  -- the low half of an int64
  high : Meaning  -- its high half
  mark : Meaning  -- 1 where it is marked (a minus, `var`), else 0
  operator : Meaning  -- which operator
  id : Meaning  -- the id of a function or a class
  number : Meaning  -- a global number
  unused : Meaning  -- 0

-- "A record refers only to earlier ones": these fields are the references.
abbrev pub is_reference : Meaning → Bool
is_reference expression = true
is_reference statement = true
is_reference function = true
is_reference class = true
is_reference items = true
is_reference span = false
is_reference low = false
is_reference high = false
is_reference mark = false
is_reference operator = false
is_reference id = false
is_reference number = false
is_reference unused = false

-- A line of the table.
pub record Shape : Type 0 where
  pub number : ℕ
  pub name : Prim.Native.String.String
  pub fields : List Meaning

abbrev shaped : ℕ → Prim.Native.String.String → List Meaning → Shape
shaped k s fs = record { number = k; name = s; fields = fs }

-- The fields follow the Rust's field order.
abbrev pub shape : Kind → Shape
shape True = shaped 1 "true" []
shape False = shaped 2 "false" []
shape Nil = shaped 3 "nil" []
shape Int = shaped 4 "int" (low ∷ high ∷ [])
shape Float = shaped 5 "float" (span ∷ mark ∷ [])
shape String = shaped 6 "string" (span ∷ [])
shape Bytes = shaped 7 "bytes" (span ∷ [])
shape Array = shaped 8 "array" (items ∷ [])
shape Dict = shaped 9 "dict" (items ∷ [])
shape Name = shaped 10 "name" (span ∷ [])
shape Host = shaped 11 "host" (span ∷ [])
shape Closure = shaped 12 "closure" (function ∷ [])
shape Index = shaped 13 "index" (expression ∷ expression ∷ [])
shape Member = shaped 14 "member" (expression ∷ span ∷ [])
shape InstanceOf = shaped 15 "instanceof" (expression ∷ span ∷ [])
shape Unary = shaped 16 "unary" (operator ∷ expression ∷ [])
shape Binary = shaped 17 "binary" (operator ∷ expression ∷ expression ∷ [])
shape Choice = shaped 18 "choice" (expression ∷ expression ∷ expression ∷ [])
shape Call = shaped 19 "call" (expression ∷ items ∷ [])
shape Do = shaped 20 "do" (expression ∷ [])
shape Assign = shaped 21 "assign" (expression ∷ expression ∷ [])
shape Return = shaped 22 "return" (expression ∷ [])
shape Assert = shaped 23 "assert" (expression ∷ [])
shape Break = shaped 24 "break" []
shape Continue = shaped 25 "continue" []
shape Block = shaped 26 "block" (items ∷ [])
shape If = shaped 27 "if" (expression ∷ statement ∷ statement ∷ [])
shape For = shaped 28 "for" (statement ∷ expression ∷ statement ∷ statement ∷ [])
shape Let = shaped 29 "let" (mark ∷ span ∷ expression ∷ [])
shape ClassDecl = shaped 30 "classdecl" (class ∷ [])
shape Fun = shaped 31 "fun" (id ∷ span ∷ items ∷ statement ∷ [])
shape Class = shaped 32 "class" (id ∷ span ∷ span ∷ items ∷ [])
shape Item = shaped 33 "item" (expression ∷ items ∷ [])
shape Param = shaped 34 "item" (span ∷ items ∷ [])
shape Pair = shaped 35 "item" (expression ∷ items ∷ span ∷ [])
shape Global = shaped 36 "item" (statement ∷ items ∷ number ∷ [])
shape Stated = shaped 37 "item" (statement ∷ items ∷ [])
shape Method = shaped 38 "item" (function ∷ items ∷ [])

-- The number of a kind in a row; 0 is no kind's.
abbrev pub number_of : Kind → ℕ
number_of k = (shape k).number

-- What the field with this index means, from 0 on. A row has four.
abbrev pub meaning_at : Kind → ℕ → Meaning
meaning_at k i = get_or (shape k).fields i unused

-- The kinds in the order of their numbers.
abbrev pub kinds : List (Option Kind)
kinds =
    None
    ∷ Some True
    ∷ Some False
    ∷ Some Nil
    ∷ Some Int
    ∷ Some Float
    ∷ Some String
    ∷ Some Bytes
    ∷ Some Array
    ∷ Some Dict
    ∷ Some Name
    ∷ Some Host
    ∷ Some Closure
    ∷ Some Index
    ∷ Some Member
    ∷ Some InstanceOf
    ∷ Some Unary
    ∷ Some Binary
    ∷ Some Choice
    ∷ Some Call
    ∷ Some Do
    ∷ Some Assign
    ∷ Some Return
    ∷ Some Assert
    ∷ Some Break
    ∷ Some Continue
    ∷ Some Block
    ∷ Some If
    ∷ Some For
    ∷ Some Let
    ∷ Some ClassDecl
    ∷ Some Fun
    ∷ Some Class
    ∷ Some Item
    ∷ Some Param
    ∷ Some Pair
    ∷ Some Global
    ∷ Some Stated
    ∷ Some Method
    ∷ []

-- The kind that a number stands for.
abbrev pub kind_of : ℕ → Option Kind
kind_of n = get_or kinds n None
