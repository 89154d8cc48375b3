-- What goes over a link, one thing after the other.
pub mod Talking
-- Calls of the kernel, with what goes over the link.
pub mod Calling
-- For `serve_visitor`: what stands when a session ends.
pub mod Outcomes
-- For `sent_is_solo`.
pub mod SoloTexts
