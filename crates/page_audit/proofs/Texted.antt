-- The document of a line, where the line is UTF-8 and parsed, and of one that isn't.
use Rattle.std.proofs.Common.{◌≡◌, Bool, true, false, None, Some, refl, ◌∙◌, IsUtf8}
use Rattle.std.specs.Str.{is_utf8}
use Rattle.std.proofs.lemmas.Str.{IsUtf8-from_is_utf8, is_utf8-from_IsUtf8}
use Rattle.std.proofs.lemmas.Bool.{cond-true}
use Rattle.json.specs.Json.{Json, document as parsed}
use Rattle.ledger_spec.specs.Bytes.{Bytes}
use Rattle.page_audit.specs.Documents.{document}

-- a text that is read
pub document_some : (line : Bytes) (d : Json) → IsUtf8 line → parsed line ≡ Some d → document line ≡ Some d
unfolding document
document_some line d text is = cond-true (is_utf8 line) _ _ (is_utf8-from_IsUtf8 line text) ∙ is

-- what isn't read as a text is no document
pub document_none : (line : Bytes) → (IsUtf8 line → parsed line ≡ None) → document line ≡ None
unfolding document
document_none line none = by (is_utf8 line) refl
  where
    by : (b : Bool) → is_utf8 line ≡ b → (Rattle.std.specs.Prelude.if◌then◌else◌ b (parsed line) None) ≡ None
    by true text = none (IsUtf8-from_is_utf8 line text)
    by false text = refl
