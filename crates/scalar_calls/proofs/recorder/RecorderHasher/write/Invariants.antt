use Rattle.std.proofs.Common.{◌≡◌, ◌*◌, ◌%◌, ◌^◌, take, fold, bit_xor}
use Rattle.scalar_calls.proofs.recorder.RecorderHasher.write.Given as goal

-- the digest of the bytes so far
abbrev pub invariant-loop-b : goal.invariant-loop-b
invariant-loop-b l = l.self.0 ≡ fold (λ h b. (bit_xor h b * 1099511628211) % 2 ^ 64) l.initial.self.0 (take l.b-index l.bytes)
