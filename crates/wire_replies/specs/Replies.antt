-- The bytes of a reply.
use Rattle.std.specs.Prelude.{ℕ, Bool, List, ◌++◌, ◌||◌, length, decimal, Option, None}
use Rattle.serde_json.specs.Written.{compact_text}
use Rattle.wire_frames.specs.declared.refusals.Methods.{Methods}
use Rattle.wire_replies.specs.declared.response.Response.{Response}
use Rattle.wire_replies.specs.declared.response.Response.TheVariants.{Of, No, Bare}
use Rattle.wire_replies.specs.Bodies.{body_of, refusal_body}
use Rattle.wire_replies.specs.Heads.{reply_status, refusal_status, ends_session, allowed, status_line, content_lines, last_lines}

-- the head of a message of a status, the methods it tells, and a body of so many bytes (RFC 9112, sections 2.1 and 6.2)
abbrev pub head_text : ℕ → Option Methods → Bool → ℕ → List ℕ
head_text status methods close size = status_line status ++ content_lines ++ decimal size ++ last_lines methods close

-- the same with its body
abbrev pub message_text : ℕ → Option Methods → Bool → List ℕ → List ℕ
message_text status methods close body = head_text status methods close (length body) ++ body

-- the bytes of an answer, where the session goes on or ends; a bare one has no body, whose length it tells (RFC 9110, section 9.3.2)
abbrev pub reply_text : Response → Bool → List ℕ
reply_text (Of reply) close = message_text (reply_status reply) None close (compact_text (body_of reply))
reply_text (No refusal) close =
    message_text (refusal_status refusal) (allowed refusal) (close || ends_session refusal) (compact_text (refusal_body refusal))
reply_text (Bare refusal) close =
    head_text (refusal_status refusal) (allowed refusal) (close || ends_session refusal) (length (compact_text (refusal_body refusal)))
