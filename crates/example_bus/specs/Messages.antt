-- The words of messages: the sender's number in the high half, the message's own in the low one.
use Rattle.std.specs.Prelude.{◌≡◌, ◌↔◌, ℕ, ◌+◌, ◌*◌, ◌/◌, ◌%◌, ◌^◌, ◌<◌, true, ◌&&◌}
use Rattle.std.proofs.Common.{ap, ◌∙◌, arith, eqb, eqb-true, eq-eqb}
use Rattle.std.proofs.lemmas.Bool.{and_parts, and_from}
use Rattle.example_bus.specs.declared.message.Message.{Message}

abbrev pub message : ℕ → ℕ → Message
message sender number = record { sender = sender; number = number }

abbrev pub word_of : Message → ℕ
word_of m = m.sender * 2 ^ 32 + m.number

abbrev pub message_of : ℕ → Message
message_of stored = message (stored / 2 ^ 32) (stored % 2 ^ 32)

-- the two halves of a word
high : (a b : ℕ) → b < 2 ^ 32 → (a * 2 ^ 32 + b) / 2 ^ 32 ≡ a
high a b small = omega arith

low : (a b : ℕ) → b < 2 ^ 32 → (a * 2 ^ 32 + b) % 2 ^ 32 ≡ b
low a b small = omega arith

-- a message that is read back is the one that was written
pub read_back : (m : Message) → m.number < 2 ^ 32 → message_of (word_of m) ≡ m
read_back m small =
    ap (λ (a : ℕ). message a (word_of m % 2 ^ 32)) (high m.sender m.number small) ∙ ap (message m.sender) (low m.sender m.number small)

-- words are equal only where their halves are
halves : (a b c d : ℕ) → b < 2 ^ 32 → d < 2 ^ 32 → a * 2 ^ 32 + b ≡ c * 2 ^ 32 + d → (a ≡ c) × (b ≡ d)
halves a b c d small tiny same = (omega arith, omega arith)

-- two messages are equal exactly where their words are
pub told_apart : (x y : Message) → x.number < 2 ^ 32 → y.number < 2 ^ 32
    → ((eqb x.sender y.sender && eqb x.number y.number) ≡ true) ↔ (word_of x ≡ word_of y)
told_apart x y small tiny = (
  λ same.
      let parts = and_parts (eqb x.sender y.sender) (eqb x.number y.number) same in
      ap (λ (a : ℕ). a * 2 ^ 32 + x.number) (eqb-true x.sender y.sender parts.0)
      ∙ ap (λ (b : ℕ). y.sender * 2 ^ 32 + b) (eqb-true x.number y.number parts.1),
  λ words.
      let parts = halves x.sender x.number y.sender y.number small tiny words in
      and_from (eqb x.sender y.sender) (eqb x.number y.number) (eq-eqb x.sender y.sender parts.0) (eq-eqb x.number y.number parts.1),
)
