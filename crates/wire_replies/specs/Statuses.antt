-- The statuses that replies have, for private clauses.
use Rattle.std.specs.Prelude.{ℕ}
use Rattle.wire_replies.specs.declared.heads.HttpStatus.{HttpStatus}
use Rattle.wire_replies.specs.declared.heads.HttpStatus.TheVariants as status

-- the code of a status
abbrev pub status_code : HttpStatus → ℕ
status_code status.Ok = 200
status_code status.NotFound = 404
status_code status.Conflict = 409
status_code status.Unprocessable = 422
status_code status.BadGateway = 502
status_code status.Unavailable = 503
