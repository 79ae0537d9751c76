-- What a verdict says of what was said.
use Rattle.std.proofs.Common.{◌≡◌, ℕ, ◌++◌, true, false, is_some, Option, None, Some, sym, ap, ◌∙◌, subst}
use Rattle.std.specs.Option.{option_map, IfSome}
use Rattle.ledger_spec.specs.Bytes.{Bytes, Hash, Half, Items}
use Rattle.ledger_spec.specs.Forms.{header_prefix}
use Rattle.ledger_spec.specs.Header.{header_bytes}
use Rattle.ledger_header.specs.Fields.{fields}
use Rattle.audit_core.specs.declared.audit.Audit.{Audit}
use Rattle.audit_core.specs.Said.{Said, items_or_none}
use Rattle.audit_core.specs.Verdicts.{counted, ledger_hash, IsExpected, Sums}
use Rattle.audit_core.specs.Keeping.{Keeps}
use Rattle.audit_core.proofs.shared.Behind.{none_given, some_given}

-- items that aren't given have whatever is asked of those that are
pub not_given : (P : Items → Type 0) (o : Option Items) → is_some o ≡ false → IfSome o P
not_given P o none = subst (λ (p : Option Items). IfSome p P) (sym (none_given o none)) tt

pub txs_given : (P : Items → Type 0) (o : Option Items) → is_some o ≡ true → P (items_or_none o) → IfSome o P
txs_given P o some holds = subst (λ (p : Option Items). IfSome p P) (sym (some_given o some)) holds

module _ (half : Half) (audit : Audit) (s : Said) (hash : Hash) (keeps : Keeps half audit s)
    (is : hash ≡ half (header_prefix ++ header_bytes (fields audit.header))) where
  pub hash_is : hash ≡ ledger_hash half s
  hash_is = is ∙ ap (λ (b : Bytes). half (header_prefix ++ b)) keeps.header

  pub expected : (expect : Option Hash) → IfSome expect (λ h. h ≡ hash) → IsExpected half expect s
  expected expect found = subst (λ (k : Hash). IfSome expect (λ h. h ≡ k)) hash_is found

  pub sums_without : (objects : ℕ) → objects ≡ audit.state.number → is_some s.txs ≡ false
      → Sums half s (record { hash = hash; seq = audit.header.seq; root = audit.header.state_root; objects = objects; transactions = None })
  sums_without objects number none = record {
    hash = hash_is;
    seq = sym keeps.reads.seq;
    root = sym keeps.reads.state_root;
    objects = number ∙ keeps.state.number;
    txs = sym (ap (option_map counted) (none_given s.txs none));
  }

  pub sums_with : (objects txs : ℕ) → objects ≡ audit.state.number → txs ≡ audit.txs.number → is_some s.txs ≡ true
      → Sums half s
      (record { hash = hash; seq = audit.header.seq; root = audit.header.state_root; objects = objects; transactions = Some txs })
  sums_with objects txs number many some = record {
    hash = hash_is;
    seq = sym keeps.reads.seq;
    root = sym keeps.reads.state_root;
    objects = number ∙ keeps.state.number;
    txs = ap Some (many ∙ keeps.txs.number) ∙ sym (ap (option_map counted) (some_given s.txs some));
  }
