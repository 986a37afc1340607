-- What `utf8::encode` answers, as a value of its struct.
use Rattle.std.specs.Prelude.{ℕ, ◌-◌, ◌++◌, length, replicate}
use Rattle.utf8.specs.declared.Encoded.{Encoded}
use Rattle.utf8.specs.Encoding.{encode, encoded_length}

-- the bytes in the front of the array, zeros in the rest of it, and how many they are
unfoldable pub encoding : ℕ → Encoded
encoding n =
    record { bytes = encode n ++ replicate (4 - length (encode n)) 0; length = encoded_length n }
