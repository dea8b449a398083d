-- The table of refusals: document 01's number of each. Assumes nothing.
use Rattle.std.specs.Prelude.{ℕ}
use Rattle.characters.specs.declared.refusal.Refusal.{Refusal}
use Rattle.characters.specs.declared.refusal.Refusal.TheVariants.{
  TooLong,
  BadNesting,
  NotUtf8,
  LeadingFrom,
  TooDeep,
  PoolFull,
  TooManyComparisons,
  ExpectedToken,
  ExpectedIdentifier,
  ReservedWord,
  UnknownAtom,
  OutsideInt64,
  IntegerTooLarge,
  ExpectedDigit,
  MisplacedSeparator,
  NoExponentDigits,
  EndOfInput,
  BadStringEscape,
  BadByteArray,
  PostfixIncrement,
  IncrementAsExpression,
  UnaryPlus,
  AssignmentAsExpression,
  InvalidTarget,
  NotACall,
  DeclarationAsBody,
  ExtraSemicolon,
  Duplicate,
  TooManyArguments,
  InitWithoutParameter,
}

abbrev pub number_of : Refusal → ℕ
number_of TooLong = 1  -- text too long
number_of BadNesting = 2  -- nesting limit 0 or over 256
number_of NotUtf8 = 3  -- not UTF-8
number_of LeadingFrom = 4  -- first token of the unit is the keyword `from`
number_of TooDeep = 5  -- one more level would pass its limit
number_of PoolFull = 6  -- one more record would pass its limit
number_of TooManyComparisons = 7  -- one more comparison would pass its limit
number_of ExpectedToken = 10  -- expected token
number_of ExpectedIdentifier = 11  -- expected identifier
number_of ReservedWord = 12  -- reserved word as a name
number_of UnknownAtom = 13  -- unknown atomic expression
number_of OutsideInt64 = 14  -- integer outside int64
number_of IntegerTooLarge = 15  -- integer literal too large
number_of ExpectedDigit = 16  -- expected digit
number_of MisplacedSeparator = 17  -- misplaced `_`
number_of NoExponentDigits = 18  -- exponent without digits
number_of EndOfInput = 19  -- unexpected end of input
number_of BadStringEscape = 20  -- bad string escape
number_of BadByteArray = 21  -- bad bytearray content
number_of PostfixIncrement = 22  -- postfix `++`/`--`
number_of IncrementAsExpression = 23  -- `++`/`--` as expression
number_of UnaryPlus = 24  -- unary plus on a non-constant
number_of AssignmentAsExpression = 25  -- assignment as expression
number_of InvalidTarget = 26  -- invalid target
number_of NotACall = 27  -- statement isn't a call
number_of DeclarationAsBody = 28  -- declaration as control body
number_of ExtraSemicolon = 29  -- extra `;`
number_of Duplicate = 30  -- duplicate field, parameter, method, class or unit function name
number_of TooManyArguments = 31  -- too many arguments or parameters
number_of InitWithoutParameter = 32  -- `init` without parameter
