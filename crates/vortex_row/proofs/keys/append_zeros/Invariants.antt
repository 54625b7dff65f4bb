-- How many bytes are there, and how many are missing.
use Rattle.std.proofs.Common.{◌≡◌, ◌+◌, ◌≤◌, take, vec_len, vec_capacity}
use Rattle.vortex_row.proofs.keys.append_zeros.Given as goal

abbrev pub invariant-loop-missing : goal.invariant-loop-missing
invariant-loop-missing l =
    (take (vec_len l.initial.out) l.out.items ≡ l.initial.out.items) × (vec_len l.out + l.missing ≡ vec_len l.initial.out + l.count)
    × (vec_len l.initial.out ≤ vec_len l.out) × (vec_len l.out + l.missing ≤ vec_capacity l.out)

abbrev pub decreases-loop-missing : goal.decreases-loop-missing
decreases-loop-missing l = l.missing
