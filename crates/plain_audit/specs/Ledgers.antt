-- A ledger's plain text, as what it is and not as it is read.
use Rattle.std.specs.Prelude.{◌≡◌, ◌++◌, ◌∷◌, nat_lt, is_some, List, [], length, Option, Ok}
use Rattle.hex.specs.Hex.{decode_of}
use Rattle.half_hash.specs.Hex.{IsHexOf}
use Rattle.ledger_spec.specs.declared.Kind.TheVariants.{State, Tx}
use Rattle.ledger_spec.specs.Bytes.{Bytes, Hash, Half, Items}
use Rattle.ledger_spec.specs.Forms.{IsItem}
use Rattle.ledger_spec.specs.Maps.{hash_cmp, IsMap}
use Rattle.ledger_spec.specs.Tree.{Entry, AreItems}
use Rattle.audit_core.specs.declared.answer.Answer.{Answer}
use Rattle.audit_core.specs.Said.{Said, items_or_none}
use Rattle.audit_core.specs.Verdicts.{IsVerdict, IsAccepted}
use Rattle.audit_core.specs.Runs.{joined}
use Rattle.plain_audit.specs.Lines.{header_word, tx_word}
use Rattle.plain_audit.specs.Answers.{IsAnswer}

-- the text is the key's 64 digits, a space, and the data's digits
pub record IsItemText (text : Bytes) (e : Entry) : Type 0 where
  pub key_text : Bytes
  pub data_text : Bytes
  pub text_is : text ≡ key_text ++ 32 ∷ data_text
  pub key : IsHexOf key_text e.0
  pub bytes : decode_of data_text ≡ Ok e.1
  pub item : IsItem e.0 e.1

-- the same behind the word of a transaction
pub record IsTxLine (line : Bytes) (e : Entry) : Type 0 where
  pub text : Bytes
  pub line_is : line ≡ tx_word ++ text
  pub item : IsItemText text e

-- the word of a header, and its 118 bytes in digits
pub record IsHeaderLine (line header : Bytes) : Type 0 where
  pub text : Bytes
  pub line_is : line ≡ header_word ++ text
  pub bytes : decode_of text ≡ Ok header
  pub size : length header ≡ 118

-- each line is that of the entry at its place
abbrev pub AreEach : (Bytes → Entry → Type 0) → List Bytes → Items → Type 0
AreEach P [] [] = Unit {0}
AreEach P (line ∷ lines) (e ∷ items) = P line e × AreEach P lines items
AreEach P _ _ = ⊥

-- the header's line, then one for each item of the state, then one for each transaction where any are given; keys rise in both maps
pub record Tells (lines : List Bytes) (s : Said) : Type 0 where
  pub head : Bytes
  pub state_lines : List Bytes
  pub tx_lines : List Bytes
  pub lines_are : lines ≡ head ∷ (state_lines ++ tx_lines)
  pub header : IsHeaderLine head s.header
  pub states : AreEach IsItemText state_lines s.items
  pub txs : AreEach IsTxLine tx_lines (items_or_none s.txs)
  pub given : is_some s.txs ≡ nat_lt 0 (length tx_lines)
  pub rising : IsMap hash_cmp s.items
  pub tx_rising : IsMap hash_cmp (items_or_none s.txs)

-- the bytes are the text of this ledger
pub record IsLedgerText (bytes : Bytes) (s : Said) : Type 0 where
  pub lines : List Bytes
  pub bytes_are : bytes ≡ joined lines
  pub tells : Tells lines s

-- where no line is refused the input is a ledger's text, and the answer is the verdict on that ledger
abbrev pub AcceptedIsLedger : Type 0
AcceptedIsLedger = (half : Half) (expect : Option Hash) (bytes : Bytes) (answer : Answer) → IsAnswer half expect bytes answer
    → IsAccepted answer → (s : Said) × IsLedgerText bytes s × IsVerdict half expect s answer

-- what a ledger's text says are finite maps of items of the two kinds
abbrev pub TextHasItems : Type 0
TextHasItems = (half : Half) (bytes : Bytes) (s : Said) → IsLedgerText bytes s
    → AreItems half State s.items × AreItems half Tx (items_or_none s.txs)

-- where the input is a ledger's text, the verdict on that ledger is the answer
abbrev pub LedgerIsAnswered : Type 0
LedgerIsAnswered = (half : Half) (expect : Option Hash) (bytes : Bytes) (s : Said) (answer : Answer) → IsLedgerText bytes s
    → IsVerdict half expect s answer → IsAnswer half expect bytes answer
