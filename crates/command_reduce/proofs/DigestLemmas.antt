-- Bytes have a digest.
use Rattle.std.proofs.Common.{ℕ, zero, suc, ◌<◌, ◌/◌, ◌%◌, ◌^◌, List, [], ◌∷◌, ◌++◌, arith, refl, slice_index}
use Rattle.std.specs.Int.{to_be_bytes, w32}
use Rattle.hex.specs.Hex.{IsBytes}
use Rattle.sha2.specs.Sha256.{digest_bytes, sha256}
use Rattle.sha2.proofs.Facts256.{length-sha256}
use Rattle.reduce_journal.specs.Journal.{IsDigestOf}

below_256 : (n : ℕ) → n % 256 < 256
below_256 n = omega arith

no_bytes : IsBytes []
no_bytes i = omega arith

bytes_append : (xs ys : List ℕ) → IsBytes xs → IsBytes ys → IsBytes (xs ++ ys)
bytes_append [] ys first last i = last i
bytes_append (x ∷ xs) ys first last zero = first zero
bytes_append (x ∷ xs) ys first last (suc i) = bytes_append xs ys (λ j. first (suc j)) last i

word_bytes : (n : ℕ) → IsBytes (to_be_bytes w32 n)
word_bytes n zero = below_256 (n / 256 ^ 3)
word_bytes n (suc zero) = below_256 (n / 256 ^ 2)
word_bytes n (suc (suc zero)) = below_256 (n / 256 ^ 1)
word_bytes n (suc (suc (suc zero))) = below_256 n
word_bytes n (suc (suc (suc (suc i)))) = no_bytes i

hash_bytes : (h : List ℕ) (n : ℕ) → IsBytes (digest_bytes h n)
unfolding digest_bytes
hash_bytes h zero = no_bytes
hash_bytes h (suc n) = bytes_append (digest_bytes h n) (to_be_bytes w32 (slice_index h n)) (hash_bytes h n) (word_bytes (slice_index h n))

sha256_bytes : (bytes : List ℕ) → IsBytes (sha256 bytes)
unfolding sha256
sha256_bytes bytes = hash_bytes _ 8

-- the digest of these bytes
pub digest_is : (bytes : List ℕ) → IsDigestOf bytes (record { bytes = sha256 bytes })
digest_is bytes = ((length-sha256 bytes, sha256_bytes bytes), refl)
