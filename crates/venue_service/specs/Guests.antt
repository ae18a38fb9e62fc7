-- A connection that was accepted and is to be served.
use Rattle.venue_service.specs.declared.guest.Guest.{Guest}

-- the connection of a guest
abbrev pub conn_of : {N C : Type 0} → Guest N C → C
conn_of guest = guest.conn
